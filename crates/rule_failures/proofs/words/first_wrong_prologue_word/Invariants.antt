use Rattle.rule_failures.proofs.Common.{ℕ, ◌<◌, program_code, V5}
use Rattle.rule_failures.proofs.words.first_wrong_prologue_word.Given as goal

abbrev pub invariant-loop-word : goal.invariant-loop-word
invariant-loop-word l = (j : ℕ) → j < l.word → V5 (program_code l.flat) l.image l.certificate l.function j
