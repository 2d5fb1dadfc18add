use Rattle.stack_certificate.proofs.Common.{◌≡◌, ◌+◌, ◌≤◌, length, take, arith, ap, ◌∙◌, slice_index_or, sum_by}
use Rattle.stack_certificate.proofs.AddressLemmas.{sum_room}
use Rattle.stack_certificate.proofs.lookups.members_of_table.Goals as goal

pub overflow_cast-result : goal.overflow_cast-result
overflow_cast-result c =
    let here : c.index-tables-t.result ≡ slice_index_or c.args.flat.now.tables.items c.args.t c.index-tables-t.result =
    c.index-tables-t.is ∙ ap (λ rows. slice_index_or rows c.args.t c.index-tables-t.result) c.tables.ensures in
    let room : sum_by length (take c.args.t c.args.flat.now.tables.items) + length c.index-tables-t.result ≤ 65536 =
    sum_room length c.args.flat.now.tables.items c.args.t c.index-tables-t.result 65536 c.requires here c.args.flat.now.well_formed.table_members in
    omega (arith, c.len.ensures)
