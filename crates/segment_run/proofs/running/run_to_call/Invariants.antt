use Rattle.segment_run.proofs.Common.{checked_of, code_of, thread_of, IsUnderWay}
use Rattle.segment_run.proofs.running.run_to_call.Given as goal

abbrev pub invariant-loop-left : goal.invariant-loop-left
invariant-loop-left l = IsUnderWay (checked_of l.accepted) (code_of l.accepted) (thread_of l.initial.areas l.fn.thread) l.initial.left (thread_of l.areas (record l.fn.thread { regs = l.regs })) l.left

abbrev pub decreases-loop-left : goal.decreases-loop-left
decreases-loop-left l = l.left
