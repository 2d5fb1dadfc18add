use Rattle.run_course.proofs.Common.{◌≡◌, ◌∙◌, ap, ◌∷◌, ◌++◌, [], ℕ, None, sym, subst, refl, err_from_is_err_and, GraphState, entry_text, Entry, PutsText, output_of, HasLeft, IsUnderWay, RuleState, Kept, PartEnds}
use Rattle.run_course.proofs.Rules.{under_way}
use Rattle.run_course.proofs.Ended.{end_cost, end_part, caps_held, eight_uses}
use Rattle.run_course.proofs.Parts.{onward_within, no_part}
use Rattle.run_course.proofs.course.Course.end.Goals as goal

pub record-requires-clause-cost : goal.record-requires-clause-cost
record-requires-clause-cost g c = end_cost c.requires.turn.0 c.requires.turn.1 c.args.self.now c.args.world.now c.requires.turn.2 c.args.under c.requires.turn.3 c.args.cost c.requires.turn.4

pub record-requires-clause-caps : goal.record-requires-clause-caps
record-requires-clause-caps g c = caps_held c.requires.turn.0 c.requires.turn.1 c.args.self.now c.args.world.now c.requires.turn.2 c.args.under c.requires.turn.3

pub record-requires-clause-uses : goal.record-requires-clause-uses
record-requires-clause-uses g c = eight_uses c.requires.turn.0 c.requires.turn.1 c.args.self.now c.args.world.now c.requires.turn.2 c.args.under c.requires.turn.3

pub returns-in_err-record-clause-ends : goal.returns-in_err-record-clause-ends
returns-in_err-record-clause-ends g c = λ s state left stands.
    let p = err_from_is_err_and c.from_residual.result c.from_residual.ensures.1 in
    subst (λ r. PartEnds s state left c.record.new.self c.args.world.now left (output_of c.args.writer.now (g.K.Sink.taken c.args.out.now)) (output_of c.args.writer.now (g.K.Sink.taken c.args.out.now)) r) (sym p.1) (no_part s state left c.args.world.now (output_of c.args.writer.now (g.K.Sink.taken c.args.out.now)) stands.of (onward_within s state c.args.self.now c.args.world.now left c.args.under stands))

pub leave-requires : goal.leave-requires
leave-requires g c =
    let rule_is : c.self.inside.rule ≡ c.args.self.now.rule = ap (λ (k : Kept). k.rule) (c.self.view_is ∙ c.in_ok-record.ensures.ok.rest) in
    let stands = c.requires.turn.3 in
    subst (λ (r : RuleState). IsUnderWay r c.args.under.choice.thread) (sym rule_is) (under_way c.args.world.now.places c.args.self.now.rule stands.waiting c.args.under.choice.thread stands.kept)

pub returns-clause-ends : goal.returns-clause-ends
returns-clause-ends g c = λ s state left stands.
    let recorded = c.in_ok-record.ensures.ok in
    let graph : GraphState = record c.args.self.now.graph { edges = c.record.new.self.graph.edges } in
    let same = c.self.view_is ∙ recorded.rest in
    let rule_is : c.self.inside.rule ≡ c.args.self.now.rule = ap (λ (k : Kept). k.rule) same in
    let leaves = subst (λ (old : RuleState). HasLeft old c.leave.new.self c.args.under.choice.thread) rule_is c.leave.ensures in
    subst (λ (k : Kept). PartEnds s state left (record k { rule = c.leave.new.self; under = None }) c.args.world.now left (output_of c.args.writer.now (g.K.Sink.taken c.args.out.now)) (output_of c.write_line.new.writer (g.K.Sink.taken c.write_line.new.out)) c.write_line.result) (sym same)
    (end_part s state c.args.self.now c.args.world.now left c.args.under stands c.args.cost c.requires.turn.4 c.leave.new.self leaves graph refl recorded.edges recorded.counted (output_of c.args.writer.now (g.K.Sink.taken c.args.out.now)) (output_of c.write_line.new.writer (g.K.Sink.taken c.write_line.new.out)) c.write_line.result
    (subst (λ (n : ℕ). PutsText (output_of c.args.writer.now (g.K.Sink.taken c.args.out.now)) (output_of c.write_line.new.writer (g.K.Sink.taken c.write_line.new.out)) (entry_text (Entry.End c.args.under.choice.thread.number c.args.cost n) ++ 10 ∷ []) c.write_line.result) c.free-free.ensures c.write_line.ensures.bytes))
