use Rattle.rule_failures.proofs.Common.{ℕ, ◌<◌, V7}
use Rattle.rule_failures.proofs.words.first_wrong_stub_word.Given as goal

abbrev pub invariant-loop-word : goal.invariant-loop-word
invariant-loop-word l = (j : ℕ) → j < l.word → (f : ℕ) → V7 l.image f j
