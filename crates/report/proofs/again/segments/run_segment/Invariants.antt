use Rattle.thread_core.specs.Turns.{LeavesRun}
use Rattle.report.proofs.again.segments.run_segment.Given as goal

abbrev pub invariant-loop : goal.invariant-loop
invariant-loop l = LeavesRun l.turn l.world
