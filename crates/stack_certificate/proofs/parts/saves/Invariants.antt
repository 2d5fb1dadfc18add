use Rattle.stack_certificate.proofs.Common.{◌≡◌, ◌+◌, ◌++◌, length, map, checked, a0}
use Rattle.stack_certificate.specs.Parts as parts
use Rattle.stack_certificate.proofs.parts.saves.Given as goal

abbrev pub invariant-loop-k : goal.invariant-loop-k
invariant-loop-k l = record {
  list : l.list ≡ l.initial.list ++ map checked (parts.saves l.fact a0 0 l.k);
  count : length l.list ≡ length l.initial.list + l.k;
}
