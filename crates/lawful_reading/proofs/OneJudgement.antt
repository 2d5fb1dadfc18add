-- Of a log one thing is said.
use Rattle.lawful_reading.proofs.Common.{◌≡◌, ℕ, List, refl, ap, Given, IsJudgement, Judgement}
use Rattle.lawful_reading.proofs.Judgements.{lawful_unlawful, lawful_too_long, unlawful_too_long, one_unlawful, one_too_long}

module _ (g : Given) (trace log : List ℕ) where
  pub one_judgement : (a b : Judgement) → IsJudgement g trace log a → IsJudgement g trace log b → a ≡ b
  one_judgement Judgement.Lawful Judgement.Lawful p q = refl
  one_judgement Judgement.Lawful (Judgement.Unlawful n) p q = absurd (lawful_unlawful g trace log n p q)
  one_judgement Judgement.Lawful (Judgement.Steps n) p q = absurd (lawful_too_long g trace log n p q)
  one_judgement (Judgement.Unlawful m) Judgement.Lawful p q = absurd (lawful_unlawful g trace log m q p)
  one_judgement (Judgement.Unlawful m) (Judgement.Unlawful n) p q = ap Judgement.Unlawful (one_unlawful g trace log m n p q)
  one_judgement (Judgement.Unlawful m) (Judgement.Steps n) p q = absurd (unlawful_too_long g trace log m n p q)
  one_judgement (Judgement.Steps m) Judgement.Lawful p q = absurd (lawful_too_long g trace log m q p)
  one_judgement (Judgement.Steps m) (Judgement.Unlawful n) p q = absurd (unlawful_too_long g trace log n m q p)
  one_judgement (Judgement.Steps m) (Judgement.Steps n) p q = ap Judgement.Steps (one_too_long g trace log m n p q)
