use Rattle.std.proofs.Common.{◌≤◌}
use Rattle.schedule_rows.proofs.choices.go_so.Given as goal

abbrev pub invariant-loop-at : goal.invariant-loop-at
invariant-loop-at g l = l.scheduler.noted ≤ l.at
