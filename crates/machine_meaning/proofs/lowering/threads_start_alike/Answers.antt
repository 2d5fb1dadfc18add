use Rattle.machine_meaning.proofs.Meaning.{started_starts, globals_start}
use Rattle.machine_meaning.proofs.lowering.threads_start_alike.Goals as goal

pub returns-clause-thread : goal.returns-clause-thread
returns-clause-thread c = started_starts

pub returns-clause-globals : goal.returns-clause-globals
returns-clause-globals c = globals_start
