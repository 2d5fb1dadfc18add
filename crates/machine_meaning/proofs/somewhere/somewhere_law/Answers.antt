use Rattle.machine_meaning.proofs.BetweenLaws.{somewhere}
use Rattle.machine_meaning.proofs.StandsForSome.{globals_somewhere}
use Rattle.machine_meaning.proofs.somewhere.somewhere_law.Goals as goal

pub returns-clause-thread : goal.returns-clause-thread
returns-clause-thread c = somewhere

pub returns-clause-globals : goal.returns-clause-globals
returns-clause-globals c = globals_somewhere
