use Rattle.runner.proofs.Common.{◌≡◌, ◌∙◌, [], ◌∷◌, ◌++◌, List, ℕ, Err, refl, sym, ap, subst, err_from_is_err_and, Puts, entry_text, log_text, Entry, StopLine, Failure, CountsPart, edge_lines, end_lines, Grows, IsFitText, TakesPart, output_of, stop_line, fit_anyway, fit_on, grows_on, part_on, finished, free_count}
use Rattle.schedule_log.proofs.Written.{prefix_none}
use Rattle.run_course.proofs.Edged.{puts_begun, end_text_of, counts_on}
use Rattle.runner.proofs.closing.write_end.Goals as goal

pub returns-in_default-clause-bytes : goal.returns-in_default-clause-bytes
returns-in_default-clause-bytes g c = prefix_none _ _

pub returns-in_default-clause-counts : goal.returns-in_default-clause-counts
returns-in_default-clause-counts g c = refl

pub returns-in_err-write_edges-clause-bytes : goal.returns-in_err-write_edges-clause-bytes
returns-in_err-write_edges-clause-bytes g c =
    let p = err_from_is_err_and c.from_residual.result c.from_residual.ensures.1 in
    let stop = stop_line c.args.halt (free_count c.args.world.now.machine.areas.pool) in
    let caps = c.args.world.now.setting.caps in
    let whole = log_text (end_lines caps c.args.graph.now.edges stop) in
    subst (λ r. Puts (g.K.Sink.taken c.args.out.now) (g.K.Sink.taken c.write_edges.new.out) (c.args.writer.held ++ whole) r) (sym p.1)
    (puts_begun (output_of c.args.writer (g.K.Sink.taken c.args.out.now)) (output_of c.write_edges.new.writer (g.K.Sink.taken c.write_edges.new.out)) (log_text (edge_lines caps c.deref.result.now)) (entry_text (Entry.Stop stop) ++ 10 ∷ []) whole
    (end_text_of caps c.args.graph.now.edges c.deref.result.now stop (c.deref.ensures.value ∙ c.in-Ok.ensures.all)) c.in_err-write_edges.ensures.bytes)

pub returns-in_err-write_edges-clause-counts : goal.returns-in_err-write_edges-clause-counts
returns-in_err-write_edges-clause-counts g c =
    let p = err_from_is_err_and c.from_residual.result c.from_residual.ensures.1 in
    let same : p.0 ≡ c.in_err-write_edges.field-0.0 = p.2 in
    subst (λ r. CountsPart r (g.K.Sink.faults c.args.out.now) (g.K.Sink.faults c.write_edges.new.out)) (sym p.1)
    (subst (λ (f : Failure). CountsPart {V = Unit {0}} (Err f) (g.K.Sink.faults c.args.out.now) (g.K.Sink.faults c.write_edges.new.out)) (sym same) c.in_err-write_edges.ensures.counts)

pub returns-in_err-write_line-clause-bytes : goal.returns-in_err-write_line-clause-bytes
returns-in_err-write_line-clause-bytes g c =
    let p = err_from_is_err_and c.from_residual-in_err-write_line.result c.from_residual-in_err-write_line.ensures.1 in
    let stop = stop_line c.args.halt (free_count c.args.world.now.machine.areas.pool) in
    let caps = c.args.world.now.setting.caps in
    let stop_is : c.line-line.result ≡ stop = c.line-line.ensures ∙ ap (λ (n : ℕ). stop_line c.args.halt n) c.free.ensures in
    let old = output_of c.args.writer (g.K.Sink.taken c.args.out.now) in
    let mid = output_of c.write_edges.new.writer (g.K.Sink.taken c.write_edges.new.out) in
    let new = output_of c.write_line.new.writer (g.K.Sink.taken c.write_line.new.out) in
    subst (λ r. Puts (g.K.Sink.taken c.args.out.now) (g.K.Sink.taken c.write_line.new.out) (c.args.writer.held ++ log_text (end_lines caps c.args.graph.now.edges stop)) r) (sym p.1)
    (subst (λ (l : List ℕ). TakesPart old new l) (sym (end_text_of caps c.args.graph.now.edges c.deref.result.now stop (c.deref.ensures.value ∙ c.in-Ok.ensures.all)))
    (part_on old mid (g.K.Sink.taken c.write_line.new.out) (log_text (edge_lines caps c.deref.result.now)) (entry_text (Entry.Stop stop) ++ 10 ∷ []) c.in_ok-write_edges.ensures.bytes
    (subst (λ (s : StopLine). TakesPart mid new (entry_text (Entry.Stop s) ++ 10 ∷ [])) stop_is c.in_err-write_line.ensures.bytes)))

pub returns-in_err-write_line-clause-counts : goal.returns-in_err-write_line-clause-counts
returns-in_err-write_line-clause-counts g c =
    let p = err_from_is_err_and c.from_residual-in_err-write_line.result c.from_residual-in_err-write_line.ensures.1 in
    let same : p.0 ≡ c.in_err-write_line.field-0.0 = p.2 in
    subst (λ r. CountsPart r (g.K.Sink.faults c.args.out.now) (g.K.Sink.faults c.write_line.new.out)) (sym p.1)
    (subst (λ (f : Failure). CountsPart {V = Unit {0}} (Err f) (g.K.Sink.faults c.args.out.now) (g.K.Sink.faults c.write_line.new.out)) (sym same)
    (counts_on (Err c.in_err-write_line.field-0.0) (g.K.Sink.faults c.args.out.now) (g.K.Sink.faults c.write_edges.new.out) (g.K.Sink.faults c.write_line.new.out) c.in_ok-write_edges.ensures.counts c.in_err-write_line.ensures.counts))

pub returns-clause-bytes : goal.returns-clause-bytes
returns-clause-bytes g c =
    let stop = stop_line c.args.halt (free_count c.args.world.now.machine.areas.pool) in
    let caps = c.args.world.now.setting.caps in
    let stop_is : c.line-line.result ≡ stop = c.line-line.ensures ∙ ap (λ (n : ℕ). stop_line c.args.halt n) c.free.ensures in
    let old = output_of c.args.writer (g.K.Sink.taken c.args.out.now) in
    let mid = output_of c.write_edges.new.writer (g.K.Sink.taken c.write_edges.new.out) in
    let new = output_of c.write_line.new.writer (g.K.Sink.taken c.write_line.new.out) in
    finished old new (g.K.Sink.taken c.finish.new.out) (log_text (end_lines caps c.args.graph.now.edges stop)) c.finish.result
    (subst (λ (l : List ℕ). Grows old new l) (sym (end_text_of caps c.args.graph.now.edges c.deref.result.now stop (c.deref.ensures.value ∙ c.in-Ok.ensures.all)))
    (grows_on old mid new (log_text (edge_lines caps c.deref.result.now)) (entry_text (Entry.Stop stop) ++ 10 ∷ []) c.in_ok-write_edges.ensures.bytes
    (subst (λ (s : StopLine). Grows mid new (entry_text (Entry.Stop s) ++ 10 ∷ [])) stop_is c.in_ok-write_line.ensures.bytes)))
    c.finish.ensures.bytes

pub returns-clause-fits : goal.returns-clause-fits
returns-clause-fits g c =
    let stop = stop_line c.args.halt (free_count c.args.world.now.machine.areas.pool) in
    let caps = c.args.world.now.setting.caps in
    let stop_is : c.line-line.result ≡ stop = c.line-line.ensures ∙ ap (λ (n : ℕ). stop_line c.args.halt n) c.free.ensures in
    let edges = c.in_ok-write_edges.ensures.bytes in
    let last = c.in_ok-write_line.ensures.bytes in
    fit_anyway c.finish.result (log_text (end_lines caps c.args.graph.now.edges stop))
    (subst IsFitText (sym (end_text_of caps c.args.graph.now.edges c.deref.result.now stop (c.deref.ensures.value ∙ c.in-Ok.ensures.all)))
    (fit_on (log_text (edge_lines caps c.deref.result.now)) (entry_text (Entry.Stop stop) ++ 10 ∷ []) edges.fits
    (subst (λ (s : StopLine). IsFitText (entry_text (Entry.Stop s) ++ 10 ∷ [])) stop_is last.fits)))

pub returns-clause-counts : goal.returns-clause-counts
returns-clause-counts g c =
    counts_on c.finish.result (g.K.Sink.faults c.args.out.now) (g.K.Sink.faults c.write_line.new.out) (g.K.Sink.faults c.finish.new.out)
    (c.in_ok-write_line.ensures.counts ∙ c.in_ok-write_edges.ensures.counts) c.finish.ensures.counts
