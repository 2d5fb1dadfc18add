use Rattle.std.proofs.Common.{◌≡◌}
use Rattle.schedule_rows.specs.Needs.{KnowsNeeds}
use Rattle.schedule_rows.proofs.needs.join_down.Given as goal

abbrev pub invariant-loop-before : goal.invariant-loop-before
invariant-loop-before l = record { known : KnowsNeeds l.scheduler; noted : l.scheduler.noted ≡ 0 }
