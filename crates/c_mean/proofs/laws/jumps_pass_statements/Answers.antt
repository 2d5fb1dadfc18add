use Rattle.c_mean.proofs.JumpLemmas.{leave_passes, leave_body, skip_passes, skip_body}
use Rattle.c_mean.proofs.laws.jumps_pass_statements.Goals as goal

pub returns-clause-left : goal.returns-clause-left
returns-clause-left c = leave_passes

pub returns-clause-skipped : goal.returns-clause-skipped
returns-clause-skipped c = skip_passes

pub returns-clause-loop_left : goal.returns-clause-loop_left
returns-clause-loop_left c = leave_body

pub returns-clause-loop_skipped : goal.returns-clause-loop_skipped
returns-clause-loop_skipped c = skip_body
