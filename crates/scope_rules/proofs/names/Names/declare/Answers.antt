use Rattle.scope_rules.proofs.Common.{◌≡◌, ◌∙◌, ◌++◌, ◌∷◌, [], sym, ap, subst, nat_cmp, Some, arith, rules, UpdatesBy, slice_cmp}
use Rattle.scope_rules.specs.declared.names.Declared.{Declared}
use Rattle.scope_rules.proofs.Links.{declare_links}
use Rattle.scope_rules.proofs.TextKeys.{at_text, ByText}
use Rattle.scope_rules.proofs.names.Names.declare.Goals as goal

pub invariant_of-self-2 : goal.invariant_of-self-2
invariant_of-self-2 c =
    let m = c.self.inside.found in
    let d : Declared = record { text = c.in_ok-text.text; found = record { position = c.len.result; meaning = c.args.meaning }; hidden = c.in_ok-hidden.hidden } in
    let key : c.in_ok-key.key.items ≡ c.in_ok-text.text.items = c.in_ok-key.ensures.items ∙ sym c.in_ok-text.ensures.items in
    let room = c.push.ensures.succeeds (omega (arith, c.in_ok-reserve.ensures.ok)) in
    let pushed : c.push.new.self.items ≡ c.reserve.new.self.items ++ d ∷ [] = rw room at c.push.ensures.items in
    let more = pushed ∙ ap (λ x. x ++ d ∷ []) c.reserve.ensures.items in
    declare_links d c.self.inside.declared.items m c.insert.new.self c.push.new.self.items more (search rules)
    (c.in_ok-hidden.ensures.old ∙ ap (λ t. at_text t m) key)
    c.self.invariant
    (subst (λ t. UpdatesBy ByText (λ k. slice_cmp nat_cmp t k.items) m c.insert.new.self (Some d.found)) key c.in_ok-hidden.ensures.updates)
