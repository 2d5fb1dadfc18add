use Rattle.stride_rule.proofs.Common.{sym, ◌∙◌, ap, clients_of}
use Rattle.stride_rule.proofs.SearchLemmas.{first_found, found_among_is, none_found}
use Rattle.stride_rule.proofs.rule.StrideRule.choose.Goals as goal

pub returns-in-Some : goal.returns-in-Some
returns-in-Some g c =
    let found = rw c.as_slice.ensures.value at c.search-found.ensures ∙ found_among_is _ c.self.inside.running _ c.self.inside.places.items in
    rw (← c.self.view_is, found)
    (first_found _ c.self.inside.running (clients_of c.self.inside.places.items) c.in-Some.client c.self.invariant.kept.once
    (sym (ap (λ f. f.best) found) ∙ c.in-Some.is))

pub returns-in-None : goal.returns-in-None
returns-in-None g c =
    let found = rw c.as_slice.ensures.value at c.search-found.ensures ∙ found_among_is _ c.self.inside.running _ c.self.inside.places.items in
    rw (← c.self.view_is)
    (none_found _ c.self.inside.running (clients_of c.self.inside.places.items) (sym (ap (λ f. f.best) found) ∙ c.in-None.is))
