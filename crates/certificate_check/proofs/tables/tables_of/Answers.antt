use Rattle.certificate_check.proofs.Common.{ℕ, List, length, ap, ◌∙◌, arith, slice_index, program_code}
use Rattle.std.proofs.lemmas.List.FromFn.{length-map-range_with_len, get_or-map-range_with_len}
use Rattle.stack_certificate.specs.Certificates.{global_address, table_address}
use Rattle.certificate_check.proofs.tables.tables_of.Goals as goal

pub returns : goal.returns
returns c =
    let code = program_code c.args.flat.now in
    let globals = length code.globals in
    let tables = length code.tables in
    record {
      global_count = ap length c.in_ok-global_addresses.ensures ∙ length-map-range_with_len (global_address code) 0 globals;
      global = λ g lt. ap (λ (xs : List ℕ). slice_index xs g) c.in_ok-global_addresses.ensures ∙ get_or-map-range_with_len (global_address code) 0 globals g g 0 lt (omega arith);
      table_count = ap length c.in_ok-table_addresses.ensures ∙ length-map-range_with_len (table_address code) 0 tables;
      table = λ t lt. ap (λ (xs : List ℕ). slice_index xs t) c.in_ok-table_addresses.ensures ∙ get_or-map-range_with_len (table_address code) 0 tables t t 0 lt (omega arith);
      bounds = c.in_ok-member_bounds.ensures;
    }
