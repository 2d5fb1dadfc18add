-- The effect of reading a block, and of taking a byte of it, if the source exposes its bytes.
use Rattle.std.specs.Prelude.{◌≡◌, ℕ, List, [], ◌∷◌, Option, None, Some, Result, Ok, Err, MatchResult}
use Rattle.std.specs.Io.KnownBytes.{Consumes, Keeps, IsAtEnd}

-- the buffer has the bytes of the read, and is empty only at the end; a failed read loses no bytes
abbrev pub FillsBlock : {V E : Type 0} → Option (List ℕ) → Option (List ℕ) → List ℕ → Result V E → Type 0
FillsBlock before after held r = MatchResult r (λ _. Consumes before after held × (held ≡ [] → IsAtEnd after)) (λ _. Keeps before after)

-- the next byte was removed, and there is none only at the end; a failed read says nothing about the
-- bytes
abbrev pub GivesByte : {E : Type 0} → Option (List ℕ) → Option (List ℕ) → Result (Option ℕ) E → Type 0
GivesByte before after (Ok (Some byte)) = Consumes before after (byte ∷ [])
GivesByte before after (Ok None) = Consumes before after [] × IsAtEnd after
GivesByte before after (Err _) = Unit {0}

-- the first byte of the buffer was removed
abbrev pub GivesHeld : {E : Type 0} → List ℕ → List ℕ → Result (Option ℕ) E → Type 0
GivesHeld old new (Ok (Some byte)) = old ≡ byte ∷ new
GivesHeld old new (Ok None) = ⊥
GivesHeld old new (Err _) = ⊥
