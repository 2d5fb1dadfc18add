-- A request is answered once more.
use Rattle.run_history.proofs.Common.{◌≡◌, ℕ, zero, suc, Some, refl, answers_of}

-- a count that isn't 0
pub some-answers : (first last count : ℕ) → (count ≡ 0 → ⊥) → answers_of first last count ≡ Some (record { first = first; last = last; count = count })
some-answers first last zero differs = absurd (differs refl)
some-answers first last (suc count) differs = refl
