-- The contents of a shelf that exposes its files.
use Rattle.std.specs.Prelude.{◌≡◌, ℕ, ◌<◌, List, Option, Some, None, slice_index}
use Rattle.cap_io.specs.Files.{Files}

-- each number is a byte
abbrev pub AreBytes : List ℕ → Type 0
AreBytes bytes = (k : ℕ) → slice_index bytes k < 256

-- each file of a shelf that exposes its files consists of bytes
abbrev pub HoldBytes : Option Files → Type 0
HoldBytes None = Unit {0}
HoldBytes (Some files) = (name bytes : List ℕ) → files name ≡ Some bytes → AreBytes bytes
