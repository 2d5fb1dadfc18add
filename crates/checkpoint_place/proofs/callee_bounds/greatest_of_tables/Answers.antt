use Rattle.checkpoint_place.proofs.Common.{◌<◌, [], ◌∷◌, ◌++◌, length, map, take, slice_index, ap, sym, ◌∙◌, subst, AllByRecursion, map_more, greatest, all-at}
use Rattle.checkpoint_place.proofs.callee_bounds.greatest_of_tables.Goals as goal

pub greatest_of-requires : goal.greatest_of-requires
greatest_of-requires c =
    let members = c.members-item.result in
    let at = all-at (AllByRecursion (λ f. f < length c.args.bounds.now)) c.args.tables.now c.loop-members.members-index members c.requires c.loop-members-test.true in
    rw c.as_slice.ensures (subst (AllByRecursion (λ f. f < length c.args.bounds.now)) (sym c.members-item.is) at)

pub loop-members-preserved : goal.loop-members-preserved
loop-members-preserved c =
    let members = c.members-item.result in
    let tables = c.args.tables.now in
    let i = c.loop-members.members-index in
    let most = c.greatest_of.result in
    let value = greatest (slice_index c.args.bounds.now) in
    c.in_ok-push.ensures.items
    ∙ ap (λ before. before ++ most ∷ []) c.loop-members.invariant
    ∙ ap (λ next. map value (take i tables) ++ next ∷ []) (c.greatest_of.ensures ∙ ap value (c.as_slice.ensures ∙ c.members-item.is))
    ∙ sym (map_more value tables i members c.loop-members-test.true)
