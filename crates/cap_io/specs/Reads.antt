-- The effect of a read on its buffer and on the count of faults. `ReadConsumes` of the standard
-- library defines its bytes.
use Rattle.std.specs.Prelude.{◌≡◌, ℕ, ◌≤◌, List, length, drop, MatchResult, Result}
use Rattle.cap_io.specs.Faults.{Rose}

-- an answer n leaves all but the buffer's first n bytes the same; a refusal leaves all the same
abbrev pub FillsPrefix : {E : Type 0} → Result ℕ E → List ℕ → List ℕ → Type 0
FillsPrefix r old new = MatchResult r (λ n. (n ≤ length new) × (drop n new ≡ drop n old)) (λ _. new ≡ old)

-- the count rises exactly if the read fails
abbrev pub CountsReads : {E : Type 0} → Result ℕ E → ℕ → ℕ → Type 0
CountsReads r old new = MatchResult r (λ _. new ≡ old) (λ _. Rose old new)
