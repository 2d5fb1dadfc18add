use Rattle.codegen_link.proofs.Common.{◌≡◌, ◌-◌, ◌^◌, min, program_code, words_to}
use Rattle.codegen_link.proofs.sizes.code_size.Given as goal

abbrev pub invariant-loop-function : goal.invariant-loop-function
invariant-loop-function l = l.words ≡ min (words_to (program_code l.flat) l.plan l.function) (2 ^ 64 - 1)
