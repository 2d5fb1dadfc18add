use Rattle.machine_meaning.proofs.BetweenLaws.{down, up}
use Rattle.machine_meaning.proofs.Going.{goes_on, starts}
use Rattle.machine_meaning.proofs.between.between_laws.Goals as goal

pub returns-clause-down : goal.returns-clause-down
returns-clause-down c = down

pub returns-clause-up : goal.returns-clause-up
returns-clause-up c = up

pub returns-clause-goes_on : goal.returns-clause-goes_on
returns-clause-goes_on c = goes_on

pub returns-clause-starts : goal.returns-clause-starts
returns-clause-starts c = starts
