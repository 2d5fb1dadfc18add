use Rattle.certificate_check.proofs.Common.{ap, ◌∙◌, arith, greatest_bound}
use Rattle.stack_certificate.proofs.PushedLemmas.{map-pushed}
use Rattle.certificate_check.proofs.tables.member_bounds.Goals as goal

pub loop-table-preserved : goal.loop-table-preserved
loop-table-preserved c =
    let most = greatest_bound c.args.certificate.now in
    map-pushed most c.tables-table-items.result.now c.loop-table.table-index c.table-item.result _ _ _ (omega arith)
    c.loop-table.invariant c.in_ok-push.ensures.items (c.greatest_bound.ensures ∙ ap most (c.as_slice.ensures ∙ c.table-item.is))
