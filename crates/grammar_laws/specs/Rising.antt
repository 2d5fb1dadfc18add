-- Places that increase.
use Rattle.std.specs.Prelude.{ℕ, ◌+◌, ◌≤◌, List, [], ◌∷◌}

-- the places are at least `low`, below `high`, and strictly increase
abbrev pub RiseWithin : ℕ → List ℕ → ℕ → Type 0
RiseWithin low [] high = low ≤ high
RiseWithin low (place ∷ places) high = (low ≤ place) × RiseWithin (place + 1) places high
