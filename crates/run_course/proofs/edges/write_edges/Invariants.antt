use Rattle.run_course.proofs.Common.{◌≡◌, take, None, log_text, edge_lines, Grows, output_of}
use Rattle.run_course.proofs.edges.write_edges.Given as goal

abbrev pub invariant-loop-edge : goal.invariant-loop-edge
invariant-loop-edge g l =
    Grows (output_of l.initial.writer (g.K.Sink.taken l.initial.out)) (output_of l.writer (g.K.Sink.taken l.out)) (log_text (edge_lines l.world.setting.caps (take l.edge-index l.edges)))
    × (g.K.Sink.faults l.out ≡ g.K.Sink.faults l.initial.out) × (l.writer.refused ≡ None)
