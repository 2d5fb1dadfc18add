use Rattle.segment_run.proofs.Common.{checked_of, code_of, thread_of, IsUnderWay}
use Rattle.segment_run.proofs.segments.run_turns.Given as goal

abbrev pub invariant-loop-fuel : goal.invariant-loop-fuel
invariant-loop-fuel l = IsUnderWay (checked_of l.accepted) (code_of l.accepted) (thread_of l.initial.areas l.initial.thread) l.initial.fuel.left (thread_of l.areas l.thread) l.fuel.left

abbrev pub decreases-loop-fuel : goal.decreases-loop-fuel
decreases-loop-fuel l = l.fuel.left
