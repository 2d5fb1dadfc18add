use Rattle.run_course.proofs.Common.{◌≡◌, ◌∙◌, ◌+◌, [], ◌∷◌, ◌++◌, List, Err, take, drop, refl, sym, subst, take_all, err_from_is_err_and, EdgeLine, entry_text, log_text, Failure, CountsPart, edge_lines, Grows, PutsText, output_of}
use Rattle.run_course.proofs.Edged.{none_put, lines_parts, line_put, begun_more, counts_on}
use Rattle.run_course.proofs.edges.write_edges.Goals as goal

pub loop-edge-init : goal.loop-edge-init
loop-edge-init g c = (none_put (output_of c.args.writer.now (g.K.Sink.taken c.args.out.now)), refl, c.requires)

pub write_line-requires : goal.write_line-requires
write_line-requires g c = c.loop-edge.invariant.2

pub returns-in_err-write_line-clause-bytes : goal.returns-in_err-write_line-clause-bytes
returns-in_err-write_line-clause-bytes g c =
    let p = err_from_is_err_and c.from_residual.result c.from_residual.ensures.1 in
    let caps = c.args.world.now.setting.caps in
    let edges = c.args.edges.now in
    let i = c.loop-edge.edge-index in
    let old = output_of c.args.writer.now (g.K.Sink.taken c.args.out.now) in
    let mid = output_of c.loop-edge.writer (g.K.Sink.taken c.loop-edge.out) in
    let new = output_of c.write_line.new.writer (g.K.Sink.taken c.write_line.new.out) in
    subst (λ r. PutsText old new (log_text (edge_lines caps edges)) r) (sym p.1)
    (begun_more old mid new (log_text (edge_lines caps (take i edges))) (entry_text c.edge_entry-entry.result ++ 10 ∷ [])
    (log_text (edge_lines caps (drop (i + 1) edges))) (log_text (edge_lines caps edges)) (lines_parts caps edges i _ c.edge_entry-entry.result c.edge_entry-entry.ensures c.loop-edge-test.true) c.loop-edge.invariant.0 c.in_err-write_line.ensures.bytes)

pub returns-in_err-write_line-clause-counts : goal.returns-in_err-write_line-clause-counts
returns-in_err-write_line-clause-counts g c =
    let p = err_from_is_err_and c.from_residual.result c.from_residual.ensures.1 in
    let same : p.0 ≡ c.in_err-write_line.field-0.0 = p.2 in
    subst (λ r. CountsPart r (g.K.Sink.faults c.args.out.now) (g.K.Sink.faults c.write_line.new.out)) (sym p.1)
    (subst (λ (f : Failure). CountsPart {V = Unit {0}} (Err f) (g.K.Sink.faults c.args.out.now) (g.K.Sink.faults c.write_line.new.out)) (sym same)
    (counts_on (Err c.in_err-write_line.field-0.0) (g.K.Sink.faults c.args.out.now) (g.K.Sink.faults c.loop-edge.out) (g.K.Sink.faults c.write_line.new.out) c.loop-edge.invariant.1 c.in_err-write_line.ensures.counts))

pub loop-edge-preserved : goal.loop-edge-preserved
loop-edge-preserved g c = (
  line_put (output_of c.args.writer.now (g.K.Sink.taken c.args.out.now)) (output_of c.loop-edge.writer (g.K.Sink.taken c.loop-edge.out)) (output_of c.write_line.new.writer (g.K.Sink.taken c.write_line.new.out)) c.args.world.now.setting.caps c.args.edges.now
      c.loop-edge.edge-index _ c.edge_entry-entry.result c.edge_entry-entry.ensures c.loop-edge-test.true c.loop-edge.invariant.0 c.in_ok-write_line.ensures.bytes,
  c.in_ok-write_line.ensures.counts ∙ c.loop-edge.invariant.1,
  c.in_ok-write_line.ensures.unrefused,
)

pub returns-clause-bytes : goal.returns-clause-bytes
returns-clause-bytes g c =
    subst (λ (l : List EdgeLine). Grows (output_of c.args.writer.now (g.K.Sink.taken c.args.out.now)) (output_of c.loop-edge.writer (g.K.Sink.taken c.loop-edge.out)) (log_text (edge_lines c.args.world.now.setting.caps l)))
    (take_all c.loop-edge.edge-index c.args.edges.now c.loop-edge-test.false) c.loop-edge.invariant.0
