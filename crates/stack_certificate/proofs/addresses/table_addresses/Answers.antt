use Rattle.stack_certificate.proofs.Common.{◌≡◌, ◌+◌, ◌*◌, ◌<◌, List, ℕ, length, map, ap, ◌∙◌, arith, slice_index_or, range_with_len, program_code, table_address}
use Rattle.stack_certificate.proofs.AddressLemmas.{sum_room, sum_step}
use Rattle.stack_certificate.proofs.PushedLemmas.{numbered-pushed}
use Rattle.stack_certificate.proofs.addresses.table_addresses.Goals as goal

pub overflow_add-words : goal.overflow_add-words
overflow_add-words c =
    let code = program_code c.args.flat.now in
    let i = c.loop-table.table-index in
    let x = c.table-item.result in
    let inside : i < length code.tables = omega (arith, c.loop-table-test.true, ap length c.tables-tables.ensures) in
    let here : x ≡ slice_index_or code.tables i x = c.table-item.is ∙ ap (λ (ts : List (List ℕ)). slice_index_or ts i x) c.tables-tables.ensures in
    omega (arith, c.loop-table.invariant.words, sum_room length code.tables i x 65536 inside here c.args.flat.now.well_formed.table_members)

pub loop-table-preserved : goal.loop-table-preserved
loop-table-preserved c =
    let code = program_code c.args.flat.now in
    let i = c.loop-table.table-index in
    let x = c.table-item.result in
    let inside : i < length code.tables = omega (arith, c.loop-table-test.true, ap length c.tables-tables.ensures) in
    let here : x ≡ slice_index_or code.tables i x = c.table-item.is ∙ ap (λ (ts : List (List ℕ)). slice_index_or ts i x) c.tables-tables.ensures in
    record {
      addresses = numbered-pushed (table_address code) i _ _ _ c.loop-table.invariant.addresses c.in_ok-push.ensures.items (ap (λ w. 0x20000000 + 4 * w) c.loop-table.invariant.words);
      words = ap (λ n. c.loop-table.words + n) c.len.ensures ∙ (ap (λ n. n + length x) c.loop-table.invariant.words ∙ sum_step length code.tables i x inside here);
    }

pub returns : goal.returns
returns c =
    let code = program_code c.args.flat.now in
    let all : c.loop-table.table-index ≡ length code.tables = omega (arith, c.loop-table-test.false, c.loop-table.auto.table-index-end, ap length c.tables-tables.ensures) in
    c.loop-table.invariant.addresses ∙ ap (λ n. map (table_address code) (range_with_len 0 n)) all
