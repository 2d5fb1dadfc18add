-- What a value tells that was put behind others or handed on.
use Rattle.grammar_reader.proofs.Common.{◌≡◌, ◌≢◌, ◌⊎◌, inl, inr, Result, Ok, Err, List, [], ◌∷◌, ◌++◌, IfOk, IfErr, MatchResult, IfErr-at_err, ParseError, Memory}

-- a value that was put behind others
pub next_pushed : {T : Type 0} (P : T → Type 0) (r : Result T ParseError) (xs ys : List T) → MatchResult r (λ v. ys ≡ xs ++ (v ∷ [])) (λ _. ⊥) → IfOk r P → (v : T) × (ys ≡ xs ++ (v ∷ [])) × P v
next_pushed P (Ok v) xs ys e h = (v, e, h)
next_pushed P (Err x) xs ys e h = absurd e

-- a refusal that is handed on, or want of memory
pub unless_memory : {T A : Type 0} (Q : ParseError → Type 0) (r : Result T ParseError) (error : ParseError) → (error ≡ Memory) ⊎ (r ≡ Err error) → IfErr r Q → (Q error → error ≢ Memory → A) → error ≢ Memory → A
unless_memory Q r error (inl m) h f other = absurd (other m)
unless_memory Q r error (inr e) h f other = f (IfErr-at_err Q e h) other
