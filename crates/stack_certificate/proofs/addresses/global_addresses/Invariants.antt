use Rattle.stack_certificate.proofs.Common.{◌≡◌, map, take, sum_by, range_with_len, program_code, global_address}
use Rattle.stack_certificate.proofs.addresses.global_addresses.Given as goal

abbrev pub invariant-loop-global : goal.invariant-loop-global
invariant-loop-global l = record {
  addresses : l.addresses.items ≡ map (global_address (program_code l.flat)) (range_with_len 0 l.global-index);
  words : l.words ≡ sum_by (λ g. g.words) (take l.global-index (program_code l.flat).globals);
}
