use Rattle.ready_tree.proofs.Common.{◌∙◌, sym, arith, may_go}
use Rattle.ready_tree.proofs.PlaceLaws.{first_is, first_none}
use Rattle.ready_tree.proofs.places.first_met.Goals as goal

pub returns-then-is_met_at : goal.returns-then-is_met_at
returns-then-is_met_at c =
    first_is (may_go c.args.bounds.now) c.args.places.now c.loop-place.place c.loop-place-test.true c.loop-place.invariant (sym c.is_met_at.ensures ∙ c.if-is_met_at.true)

pub returns : goal.returns
returns c =
    let past = c.loop-place-test.false in
    first_none (may_go c.args.bounds.now) c.args.places.now (λ k there. c.loop-place.invariant k (omega arith) there)
