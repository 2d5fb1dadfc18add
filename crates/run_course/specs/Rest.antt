-- The rest of a trace, in the relations of a run.
use Rattle.std.specs.Prelude.{◌≡◌, ℕ, List, [], Option, None, Some}

-- nothing is said of it; or it is the bytes that the source has left, if it exposes them; or, for a source that
-- doesn't, bytes that it could have had: these are all that is left, and the reader holds none of them
pub data Rest : Type 0 where
  Unasked : Rest
  Told : (left : List ℕ) → Rest
  Made : (bytes : List ℕ) → Rest

-- the rest has known bytes
abbrev pub HasBytes : Rest → Type 0
HasBytes Unasked = ⊥
HasBytes (Told left) = Unit {0}
HasBytes (Made bytes) = Unit {0}

-- its bytes, at the start of a run
abbrev pub bytes_of : Rest → List ℕ
bytes_of Unasked = []
bytes_of (Told left) = left
bytes_of (Made bytes) = bytes

-- it agrees with what the source exposes
abbrev pub Knows : Rest → Option (List ℕ) → Type 0
Knows Unasked told = Unit {0}
Knows (Told left) told = told ≡ Some left
Knows (Made bytes) told = told ≡ None

-- for every rest after something was done there is a rest before it, and the two are so related. A source that exposes
-- nothing could then have had the bytes that were read, followed by that rest.
abbrev pub BackTo : (told told' : Option (List ℕ)) → (Rest → Rest → Type 0) → Type 0
BackTo told told' AreSuch =
    (after : Rest) → Knows after told' →
    (before : Rest) × Knows before told × (HasBytes before → HasBytes after) × (HasBytes after → HasBytes before) × AreSuch before after
