use Rattle.run_course.proofs.Common.{◌≡◌, ◌+◌, ◌∙◌, ◌∷◌, ◌++◌, [], ℕ, List, None, sym, ap, subst, err_from_is_err_and, edges_with, count_of, GraphState, EdgeLine, changes, uses_in, held_chunks, entry_text, Entry, HasRejoined, IsUnderWay, RuleState, PutsText, output_of, Kept, StandsWithin, PartEnds}
use Rattle.run_course.proofs.Rules.{under_way}
use Rattle.run_course.proofs.Ended.{block_cost, block_part, block_waits, caps_held, eight_uses}
use Rattle.run_course.proofs.Parts.{onward_within, no_part}
use Rattle.run_course.proofs.course.Course.block.Goals as goal

pub returns-in_err-node-clause-ends : goal.returns-in_err-node-clause-ends
returns-in_err-node-clause-ends g c = λ s state left stands.
    let p = err_from_is_err_and c.from_residual.result c.from_residual.ensures.1 in
    let after : Kept = record { rule = c.self.inside.rule; graph = c.node_of.new.self; monitor = c.self.inside.monitor; reader = c.self.inside.reader; next = c.self.inside.next; under = c.self.inside.under } in
    subst (λ r. PartEnds s state left after c.args.world.now left (output_of c.args.writer.now (g.K.Sink.taken c.args.out.now)) (output_of c.args.writer.now (g.K.Sink.taken c.args.out.now)) r) (sym p.1)
    (no_part s state left c.args.world.now (output_of c.args.writer.now (g.K.Sink.taken c.args.out.now)) stands.of (onward_within s state c.args.self.now c.args.world.now left c.args.under stands))

pub record-requires-clause-cost : goal.record-requires-clause-cost
record-requires-clause-cost g c = block_cost c.requires.turn.0 c.requires.turn.1 c.args.self.now c.args.world.now c.requires.turn.2 c.args.under c.requires.turn.3 c.args.key.now c.args.cost c.requires.turn.4

pub record-requires-clause-caps : goal.record-requires-clause-caps
record-requires-clause-caps g c = caps_held c.requires.turn.0 c.requires.turn.1 c.args.self.now c.args.world.now c.requires.turn.2 c.args.under c.requires.turn.3

pub record-requires-clause-uses : goal.record-requires-clause-uses
record-requires-clause-uses g c = eight_uses c.requires.turn.0 c.requires.turn.1 c.args.self.now c.args.world.now c.requires.turn.2 c.args.under c.requires.turn.3

pub returns-in_err-record-clause-ends : goal.returns-in_err-record-clause-ends
returns-in_err-record-clause-ends g c = λ s state left stands.
    let p = err_from_is_err_and c.from_residual-in_err-record.result c.from_residual-in_err-record.ensures.1 in
    subst (λ r. PartEnds s state left c.record.new.self c.args.world.now left (output_of c.args.writer.now (g.K.Sink.taken c.args.out.now)) (output_of c.args.writer.now (g.K.Sink.taken c.args.out.now)) r) (sym p.1)
    (no_part s state left c.args.world.now (output_of c.args.writer.now (g.K.Sink.taken c.args.out.now)) stands.of (onward_within s state c.args.self.now c.args.world.now left c.args.under stands))

pub need_of-need-requires : goal.need_of-need-requires
need_of-need-requires g c = block_waits c.requires.turn.0 c.requires.turn.1 c.args.self.now c.args.world.now c.requires.turn.2 c.args.under c.requires.turn.3 c.args.key.now c.args.cost c.requires.turn.4

pub returns-in_err-rejoin-clause-ends : goal.returns-in_err-rejoin-clause-ends
returns-in_err-rejoin-clause-ends g c = λ s state left stands.
    let p = err_from_is_err_and c.from_residual-in_err-rejoin.result c.from_residual-in_err-rejoin.ensures.1 in
    let after : Kept = record { rule = c.rejoin.new.self; graph = c.self-2.inside.graph; monitor = c.self-2.inside.monitor; reader = c.self-2.inside.reader; next = c.self-2.inside.next; under = c.self-2.inside.under } in
    subst (λ r. PartEnds s state left after c.args.world.now left (output_of c.args.writer.now (g.K.Sink.taken c.args.out.now)) (output_of c.args.writer.now (g.K.Sink.taken c.args.out.now)) r) (sym p.1)
    (no_part s state left c.args.world.now (output_of c.args.writer.now (g.K.Sink.taken c.args.out.now)) stands.of (onward_within s state c.args.self.now c.args.world.now left c.args.under stands))

pub rejoin-requires : goal.rejoin-requires
rejoin-requires g c =
    let same = c.self-2.view_is ∙ c.in_ok-record.ensures.ok.rest in
    let rule_is : c.self-2.inside.rule ≡ c.args.self.now.rule = ap (λ (k : Kept). k.rule) same ∙ ap (λ (k : Kept). k.rule) c.self.view_is in
    let stands = c.requires.turn.3 in
    subst (λ (r : RuleState). IsUnderWay r c.args.under.choice.thread) (sym rule_is) (under_way c.args.world.now.places c.args.self.now.rule stands.waiting c.args.under.choice.thread stands.kept)

pub returns-clause-ends : goal.returns-clause-ends
returns-clause-ends g c = λ s state left stands.
    let first : Kept = record { rule = c.self.inside.rule; graph = c.self.inside.graph; monitor = c.self.inside.monitor; reader = c.self.inside.reader; next = c.self.inside.next; under = c.self.inside.under } in
    let is = subst (λ (k : Kept). StandsWithin s state k c.args.world.now left c.args.under) (sym c.self.view_is) stands in
    let recorded = c.in_ok-record.ensures.ok in
    let graph : GraphState = record c.node_of.new.self { edges = c.record.new.self.graph.edges } in
    let same = c.self-2.view_is ∙ recorded.rest in
    let rule_is : c.self-2.inside.rule ≡ c.self.inside.rule = ap (λ (k : Kept). k.rule) same in
    let keys_is = ap (λ (gr : GraphState). gr.keys) c.in_ok-node.ensures.ok in
    let edges_is : c.node_of.new.self.edges ≡ c.self.inside.graph.edges = ap (λ (gr : GraphState). gr.edges) c.in_ok-node.ensures.ok in
    let joins = subst (λ (old : RuleState). HasRejoined old c.rejoin.new.self c.args.under.choice.thread c.in_ok-node.node c.need_of-need.result) rule_is c.in_ok-rejoin.ensures.ok in
    subst (λ (k : Kept). PartEnds s state left (record k { rule = c.rejoin.new.self; under = None }) c.args.world.now left (output_of c.args.writer.now (g.K.Sink.taken c.args.out.now)) (output_of c.write_line.new.writer (g.K.Sink.taken c.write_line.new.out)) c.write_line.result) (sym same)
    (block_part s state first c.args.world.now left c.args.under is c.args.key.now c.args.cost c.requires.turn.4 c.in_ok-node.node c.in_ok-node.ensures.number c.rejoin.new.self c.need_of-need.result joins c.need_of-need.ensures graph keys_is
    (recorded.edges ∙ ap (λ (es : List EdgeLine). edges_with es (record { from = c.args.under.choice.node; to = c.in_ok-node.node; cost = c.args.cost; change = changes c.args.under.before (uses_in (held_chunks c.args.world.now.machine) c.args.world.now.machine.exchange) })) edges_is)
    (recorded.counted ∙ ap (λ (es : List EdgeLine). count_of es + 1) edges_is) c.in_ok-node.ensures.counted (output_of c.args.writer.now (g.K.Sink.taken c.args.out.now)) (output_of c.write_line.new.writer (g.K.Sink.taken c.write_line.new.out)) c.write_line.result
    (subst (λ (n : ℕ). PutsText (output_of c.args.writer.now (g.K.Sink.taken c.args.out.now)) (output_of c.write_line.new.writer (g.K.Sink.taken c.write_line.new.out)) (entry_text (Entry.Block c.args.under.choice.thread.number c.in_ok-node.node c.args.key.now c.args.cost n) ++ 10 ∷ []) c.write_line.result) c.free-free.ensures c.write_line.ensures.bytes))
