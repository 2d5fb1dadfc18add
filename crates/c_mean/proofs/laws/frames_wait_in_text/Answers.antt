use Rattle.std.proofs.Common.{subst}
use Rattle.c_mean.proofs.StandLemmas.{MoveStands, reached_stands, step_stands}
use Rattle.c_mean.proofs.WorldStandLemmas.{blocked_stands}
use Rattle.c_mean.proofs.laws.frames_wait_in_text.Goals as goal

pub returns-clause-running : goal.returns-clause-running
returns-clause-running c = λ program function arguments globals world n asked thread e. (reached_stands program world function arguments globals n asked thread e).below

pub returns-clause-asking : goal.returns-clause-asking
returns-clause-asking c =
    λ program function arguments globals world n asked thread question waiting e f.
    subst (MoveStands program) f (step_stands program thread (reached_stands program world function arguments globals n asked thread e))

pub returns-clause-blocked : goal.returns-clause-blocked
returns-clause-blocked c = blocked_stands
