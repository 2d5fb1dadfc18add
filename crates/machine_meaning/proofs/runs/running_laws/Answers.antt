use Rattle.machine_meaning.proofs.Stretching.{picks, steps, stretch, stretch_on, source_along}
use Rattle.machine_meaning.proofs.runs.running_laws.Goals as goal

pub returns-clause-picks : goal.returns-clause-picks
returns-clause-picks c = λ program image certificate s w after number scoped valid code formed settled e. picks program image certificate s scoped valid code w after number formed settled e

pub returns-clause-steps : goal.returns-clause-steps
returns-clause-steps c = λ program image certificate s w scoped valid code formed running. steps program image certificate s scoped valid code w formed running

pub returns-clause-stretch : goal.returns-clause-stretch
returns-clause-stretch c = λ program image certificate s n w at scoped valid code formed running h. stretch program image certificate s scoped valid code n w at formed running h

pub returns-clause-stretch_on : goal.returns-clause-stretch_on
returns-clause-stretch_on c = λ program image certificate s n w at after scoped valid code formed running h e. stretch_on program image certificate s scoped valid code n w at after formed running h e

pub returns-clause-source : goal.returns-clause-source
returns-clause-source c = λ program image certificate s n w at start number puts scoped valid code formed reached h. source_along program image certificate s scoped valid code n w at start number puts formed reached h
