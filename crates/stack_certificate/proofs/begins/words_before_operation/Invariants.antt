use Rattle.stack_certificate.proofs.Common.{◌≡◌, ◌+◌, ◌*◌, ◌≤◌, ◌^◌, program_code, words_before}
use Rattle.stack_certificate.proofs.begins.words_before_operation.Given as goal

abbrev pub invariant-loop-i : goal.invariant-loop-i
invariant-loop-i l = record {
  words : l.words ≡ words_before (program_code l.flat) l.certificate l.function l.i;
  range : l.words ≤ 8 + l.i * 2 ^ 21;
}
