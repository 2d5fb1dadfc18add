use Rattle.codegen_link.proofs.Common.{length, ap, ◌∙◌, arith, slice_index, length-map-range_with_len, get_or-map-range_with_len, program_code, global_address}
use Rattle.codegen_link.proofs.settings.global_address.Goals as goal

pub bounds-as_slice-g : goal.bounds-as_slice-g
bounds-as_slice-g c =
    let code = program_code c.args.layout.now.flat.now in
    let count = ap length c.requires.ready.global_addresses ∙ length-map-range_with_len (global_address code) 0 (length code.globals) in
    omega (arith, count, ap length c.as_slice.ensures.value, c.requires.global)

pub returns : goal.returns
returns c =
    let code = program_code c.args.layout.now.flat.now in
    ap (λ xs. slice_index xs c.args.g) (c.as_slice.ensures.value ∙ c.requires.ready.global_addresses) ∙
    get_or-map-range_with_len (global_address code) 0 (length code.globals) c.args.g c.args.g 0 c.requires.global (omega arith)
