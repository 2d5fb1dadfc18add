-- The effect of writes on the count of faults, and of putting a whole piece. `WriteAppends` of the standard library
-- defines the bytes of one write.
use Rattle.std.specs.Prelude.{◌≡◌, ℕ, ◌<◌, ◌≤◌, List, length, take, MatchResult, Result, Ok, Err, Option}
use Rattle.std.specs.Io.KnownBytes.{Appends}
use Rattle.cap_io.specs.declared.sinks.SinkError.{SinkError}
use Rattle.cap_io.specs.declared.sinks.SinkError.TheVariants.{Failed, Memory}
use Rattle.cap_io.specs.Faults.{Rose}

-- in a write of a piece of this many bytes the count rises exactly if it fails, or takes nothing of a piece that isn't
-- empty
abbrev pub CountsWrites : Result ℕ SinkError → ℕ → ℕ → ℕ → Type 0
CountsWrites (Ok n) len old new = (0 < n → new ≡ old) × (len ≡ 0 → new ≡ old) × (n ≡ 0 → 0 < len → Rose old new)
CountsWrites (Err Failed) len old new = Rose old new
CountsWrites (Err Memory) len old new = new ≡ old

-- the bytes taken, if they are exposed, grew by the piece, and after a refusal by a prefix of it
abbrev pub Puts : {E : Type 0} → Option (List ℕ) → Option (List ℕ) → List ℕ → Result (Unit {0}) E → Type 0
Puts old new piece r = MatchResult r (λ _. Appends old new piece) (λ _. (n : ℕ) × (n ≤ length piece) × Appends old new (take n piece))

-- the count rises exactly if putting the piece failed
abbrev pub CountsPuts : Result (Unit {0}) SinkError → ℕ → ℕ → Type 0
CountsPuts (Ok _) old new = new ≡ old
CountsPuts (Err Failed) old new = Rose old new
CountsPuts (Err Memory) old new = new ≡ old
