use Rattle.stride_rule.proofs.Common.{◌+◌, ◌≤◌, ◌^◌, ◌∙◌, None, sym, arith, get_or_default}
use Rattle.stride_rule.proofs.RowLemmas.{row_passes}
use Rattle.stride_rule.proofs.places.grow_at.Goals as goal

pub overflow_add-before : goal.overflow_add-before
overflow_add-before c =
    let row = c.in-Some.row in
    let ps = c.args.places.now.items in
    let at = sym (c.index.ensures ∙ get_or_default ps c.args.place c.index.result.now None c.requires.there) ∙ c.in-Some.is in
    let room : row.client.pass + row.client.stride ≤ 2 ^ 61 = row_passes (λ client. client.pass + client.stride ≤ 2 ^ 61) ps c.args.place row c.requires.room at in
    let same = c.from.ensures in
    omega arith
