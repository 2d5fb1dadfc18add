-- The files of a shelf, and what calls leave unchanged.
use Rattle.std.specs.Prelude.{◌≡◌, ◌≢◌, ℕ, List, Option, None, Some}

-- the bytes of the file of each name, or none if there is no such file
abbrev pub Files : Type 0
Files = List ℕ → Option (List ℕ)

-- the files, if they are exposed, stay the same
abbrev pub KeepsFiles : Option Files → Option Files → Type 0
KeepsFiles None new = Unit {0}
KeepsFiles (Some old) None = ⊥
KeepsFiles (Some old) (Some new) = (name : List ℕ) → new name ≡ old name

-- all files except the one of this name stay the same
abbrev pub KeepsOthers : Files → Files → List ℕ → Type 0
KeepsOthers old new name = (other : List ℕ) → other ≢ name → new other ≡ old other
