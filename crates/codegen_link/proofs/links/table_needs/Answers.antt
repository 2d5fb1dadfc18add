use Rattle.codegen_link.proofs.Common.{slice_index, arith, ap, ◌∙◌, greatest, map-pushed}
use Rattle.codegen_link.proofs.links.table_needs.Goals as goal

pub loop-members-preserved : goal.loop-members-preserved
loop-members-preserved c =
    let most = greatest (slice_index c.args.plan.now.bounds) in
    map-pushed most c.tables-members-items.result.now c.loop-members.members-index c.members-item.result _ _ _ (omega arith)
    c.loop-members.invariant c.in_ok-push.ensures.items
    (c.greatest_of.ensures ∙ (ap (λ bounds. greatest (slice_index bounds) c.as_slice.result.now) c.as_slice-in-loop-members.ensures ∙ ap most (c.as_slice.ensures ∙ c.members-item.is)))
