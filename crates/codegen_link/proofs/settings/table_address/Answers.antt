use Rattle.codegen_link.proofs.Common.{length, ap, ◌∙◌, arith, slice_index, length-map-range_with_len, get_or-map-range_with_len, program_code, table_address}
use Rattle.codegen_link.proofs.settings.table_address.Goals as goal

pub bounds-as_slice-t : goal.bounds-as_slice-t
bounds-as_slice-t c =
    let code = program_code c.args.layout.now.flat.now in
    let count = ap length c.requires.ready.table_addresses ∙ length-map-range_with_len (table_address code) 0 (length code.tables) in
    omega (arith, count, ap length c.as_slice.ensures.value, c.requires.table)

pub returns : goal.returns
returns c =
    let code = program_code c.args.layout.now.flat.now in
    ap (λ xs. slice_index xs c.args.t) (c.as_slice.ensures.value ∙ c.requires.ready.table_addresses) ∙
    get_or-map-range_with_len (table_address code) 0 (length code.tables) c.args.t c.args.t 0 c.requires.table (omega arith)
