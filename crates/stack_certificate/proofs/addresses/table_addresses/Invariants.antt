use Rattle.stack_certificate.proofs.Common.{◌≡◌, map, take, length, sum_by, range_with_len, program_code, table_address}
use Rattle.stack_certificate.proofs.addresses.table_addresses.Given as goal

abbrev pub invariant-loop-table : goal.invariant-loop-table
invariant-loop-table l = record {
  addresses : l.addresses.items ≡ map (table_address (program_code l.flat)) (range_with_len 0 l.table-index);
  words : l.words ≡ sum_by length (take l.table-index (program_code l.flat).tables);
}
