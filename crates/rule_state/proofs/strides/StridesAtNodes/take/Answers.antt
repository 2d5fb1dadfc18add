use Rattle.std.proofs.Common.{◌<◌, ℕ, length, refl, ◌∙◌, rules}
use Rattle.std.proofs.lemmas.List.{get_or_default}
use Rattle.rule_state.proofs.ChoiceLemmas.{slot_within, nodes-grown}
use Rattle.rule_state.proofs.strides.StridesAtNodes.take.Goals as goal

pub returns-clause-place : goal.returns-clause-place
returns-clause-place g c =
    let none = rw (← c.self.view_is) at c.requires.none_under_way in
    slot_within c.self.inside.rule _ _ c.in-Some.ensures.lawful c.self.inside.nodes.items none c.self.invariant

pub index-node-requires : goal.index-node-requires
index-node-requires g c =
    let none = rw (← c.self.view_is) at c.requires.none_under_way in
    let within : c.in-Some.thread.slot < length c.self.inside.nodes.items = slot_within c.self.inside.rule _ _ c.in-Some.ensures.lawful c.self.inside.nodes.items none c.self.invariant in
    search rules

pub invariant_of-self : goal.invariant_of-self
invariant_of-self g c = rw (c.in_default.ensures.none refl) c.self.invariant

pub invariant_of-self-2 : goal.invariant_of-self-2
invariant_of-self-2 g c = rw c.in-Some.ensures.noted (nodes-grown c.in-Some.thread.number c.self.inside.nodes.items c.self.inside.rule.clients c.self.invariant)

pub returns-clause-lawful : goal.returns-clause-lawful
returns-clause-lawful g c =
    let none = rw (← c.self.view_is) at c.requires.none_under_way in
    let nodes = c.self.inside.nodes.items in
    let slot : ℕ = c.in-Some.thread.slot in
    let within : slot < length nodes = slot_within c.self.inside.rule _ _ c.in-Some.ensures.lawful nodes none c.self.invariant in
    rw (← c.self.view_is) (record { first = c.in-Some.ensures.lawful; node = c.index-node.ensures ∙ get_or_default nodes slot c.index-node.result.now 0 within })
