-- The count of faults that a source, a sink or a shelf keeps, before a call and after it.
use Rattle.std.specs.Prelude.{◌≡◌, ℕ, ◌+◌, ◌^◌, ◌<◌, ◌≤◌}

-- the count rose, unless it is at its maximum of 64 bits, where it stays
abbrev pub Rose : ℕ → ℕ → Type 0
Rose old new = new + 1 < 2 ^ 64 → old < new

-- the count rose, or stands at its last value
pub record IsRisen (old new : ℕ) : Type 0 where
  pub rose : Rose old new
  pub never_falls : old ≤ new

-- the count neither rose nor stands at its last value: where it never falls, this is what `Rose` denies
abbrev pub Stayed : ℕ → ℕ → Type 0
Stayed old new = (new ≡ old) × (new + 1 < 2 ^ 64)
