use Rattle.stride_rule.proofs.SearchLemmas.{first_met_is, none_met_is}
use Rattle.stride_rule.proofs.rule.StrideRule.first.Goals as goal

pub returns-in-Some : goal.returns-in-Some
returns-in-Some c = λ test exact.
    let none = rw (← c.self.view_is) at c.requires in
    let found = rw c.as_slice.ensures.value at c.in-Some.ensures in
    rw (← c.self.view_is)
    (first_met_is c.args.bounds.now test c.self.inside.running c.self.inside.places.items c.in-Some.client none c.self.invariant.kept.once (rw (← c.self.view_is) at exact) found)

pub returns-in-None : goal.returns-in-None
returns-in-None c = λ test exact.
    let none = rw (← c.self.view_is) at c.requires in
    let found = rw c.as_slice.ensures.value at c.in-None.ensures in
    rw (← c.self.view_is)
    (none_met_is c.args.bounds.now test c.self.inside.running c.self.inside.places.items none c.self.invariant.kept.once (rw (← c.self.view_is) at exact) found)
