use Rattle.std.proofs.Common.{◌≡◌, true}
use Rattle.stride_rule.proofs.NotingLemmas.{exact_if_known, noted_as_held, noted_as_made_if}
use Rattle.stride_rule.proofs.rule.StrideRule.choice_by_needs.Goals as goal

pub returns-in-Some : goal.returns-in-Some
returns-in-Some g c =
    let held : c.args.self.now.held_back ≡ true = rw (← c.self.view_is) c.if-self.true in
    noted_as_held c.args.self.now _ c.in-Some.thread held (c.in-Some.ensures _ (exact_if_known _ _ _ c.args.self.now c.bounds_at_gate-bounds.ensures c.requires.known))

pub returns-in-None : goal.returns-in-None
returns-in-None g c = c.in-None.ensures _ (exact_if_known _ _ _ c.args.self.now c.bounds_at_gate-bounds.ensures c.requires.known)

pub returns-else-self : goal.returns-else-self
returns-else-self g c = noted_as_made_if c.args.self.now _ c.choose.result c.choose.ensures
