use Rattle.runner.proofs.Common.{◌≡◌, None, output_of, rank, rule_of}
use Rattle.runner.proofs.Rounds.{RunsOn}
use Rattle.runner.proofs.running.go.Given as goal

abbrev pub invariant-loop-halt : goal.invariant-loop-halt
invariant-loop-halt g l =
    RunsOn l.fn.world (rule_of l.fn.rule) l.fn.monitor (g.S.Source.left l.fn.trace) (g.K.Sink.taken l.fn.out) (g.S.Source.faults l.fn.trace) (g.K.Sink.faults l.fn.out) l.course l.world (g.S.Source.left l.trace) (output_of l.writer (g.K.Sink.taken l.out)) (g.S.Source.faults l.trace)
    (g.K.Sink.faults l.out) × (l.writer.refused ≡ None)

abbrev pub decreases-loop-halt : goal.decreases-loop-halt
decreases-loop-halt g l = rank l.course l.world
