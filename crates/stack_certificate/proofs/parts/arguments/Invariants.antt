use Rattle.stack_certificate.proofs.Common.{◌≡◌, ◌+◌, ◌++◌, length, map, take, checked, a0}
use Rattle.stack_certificate.specs.Parts as parts
use Rattle.stack_certificate.proofs.parts.arguments.Given as goal

abbrev pub invariant-loop-k : goal.invariant-loop-k
invariant-loop-k l = record {
  list : l.list ≡ l.initial.list ++ map checked (parts.arguments l.fact a0 (take l.k l.args));
  count : length l.list ≡ length l.initial.list + l.k;
}
