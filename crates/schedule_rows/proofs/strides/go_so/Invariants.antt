use Rattle.std.proofs.Common.{◌≡◌, ◌≤◌, None}
use Rattle.schedule_rows.proofs.strides.go_so.Given as goal

abbrev pub invariant-loop-at : goal.invariant-loop-at
invariant-loop-at l = record { between : l.rule.running ≡ None; noted : l.rule.noted ≤ l.at }
