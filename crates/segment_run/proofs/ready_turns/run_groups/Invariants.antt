use Rattle.segment_run.proofs.Common.{Run, IsIn}
use Rattle.segment_run.proofs.ready_turns.run_groups.Given as goal

abbrev pub invariant-loop-stand : goal.invariant-loop-stand
invariant-loop-stand l =
    (run : Run) → IsIn run l.ready l.initial.areas l.initial.file l.fn.start.at l.fn.start.left → IsIn run l.ready l.areas l.file l.stand.at l.stand.left

abbrev pub decreases-loop-stand : goal.decreases-loop-stand
decreases-loop-stand l = l.stand.left
