use Rattle.run_course.proofs.Common.{rules, ◌≡◌, ◌∙◌, ℕ, ℤ, List, length, sym, ap, subst, IfErr, err_from_is_err_and, edges_with, GraphState, EdgeLine, SegmentRecord, changes, changes_are, small_changes, Kept, IsRecorded, Failure}
use Rattle.run_course.proofs.Caps.{uses_are, within_small}
use Rattle.run_course.proofs.course.Course.record.Goals as goal

pub note-requires-clause-range : goal.note-requires-clause-range
note-requires-clause-range g c =
    let eight : length c.changes-change.result ≡ 8 = search rules in
    record {
      cost = c.requires.cost;
      changes = small_changes c.args.under.before c.uses_of-after.result c.changes-change.result eight c.changes-change.ensures c.requires.before (within_small c.args.world.now c.uses_of-after.result c.requires.caps c.uses_of-after.ensures.within);
    }

pub returns-in_err-note-clause-err : goal.returns-in_err-note-clause-err
returns-in_err-note-clause-err g c =
    let p = err_from_is_err_and c.from_residual.result c.from_residual.ensures.1 in
    let with_graph : GraphState → Kept = λ graph. record { rule = c.self.inside.rule; graph = graph; monitor = c.self.inside.monitor; reader = c.self.inside.reader; next = c.self.inside.next; under = c.self.inside.under } in
    subst (λ r. IfErr r (λ failure. (failure ≡ Failure.Memory) × (with_graph c.note.new.self ≡ c.args.self.now))) (sym p.1) (p.2, ap with_graph c.in_err-note.ensures.err ∙ c.self.view_is)

pub returns-clause-ok : goal.returns-clause-ok
returns-clause-ok g c =
    let eight : length c.changes-change.result ≡ 8 = search rules in
    let before_eight : length c.args.under.before ≡ 8 = search rules in
    let after_eight : length c.uses_of-after.result ≡ 8 = search rules in
    let with_graph : GraphState → Kept = λ graph. record { rule = c.self.inside.rule; graph = graph; monitor = c.self.inside.monitor; reader = c.self.inside.reader; next = c.self.inside.next; under = c.self.inside.under } in
    let segment : List ℤ → SegmentRecord = λ change. record { from = c.args.under.choice.node; to = c.args.node; cost = c.args.cost; change = change } in
    let uses = uses_are c.args.world.now.machine c.uses_of-after.result after_eight c.requires.uses c.uses_of-after.ensures.uses in
    let same = changes_are c.args.under.before c.uses_of-after.result c.changes-change.result before_eight after_eight eight c.changes-change.ensures ∙ ap (λ (u : List ℕ). changes c.args.under.before u) uses in
    let edges = ap (λ (gr : GraphState). gr.edges) c.in_ok-note.ensures.ok in
    let whole : c.note.new.self ≡ record c.self.inside.graph { edges = c.note.new.self.edges } =
    c.in_ok-note.ensures.ok ∙ ap (λ (es : List EdgeLine). let gr : GraphState = record c.self.inside.graph { edges = es } in gr) (sym edges) in
    subst (λ (k : Kept). IsRecorded k (with_graph c.note.new.self) c.args.world.now c.args.under c.args.node c.args.cost) c.self.view_is (record {
      edges = edges ∙ ap (λ (change : List ℤ). edges_with c.self.inside.graph.edges (segment change)) same;
      counted = c.in_ok-note.ensures.counted;
      rest = ap with_graph whole;
    })
