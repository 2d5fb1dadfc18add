-- The contents of a text, and what a piece adds.
use Rattle.std.specs.Prelude.{ℕ, ◌≡◌, ◌==◌, Bool, true, List, [], ◌∷◌, ◌++◌, length, nat_lt, if◌then◌else◌}
use Rattle.std.specs.List.{position_or_len, before_first, after_first}
use Rattle.std.specs.Fmt.{decimal}

-- the bytes of a text, and whether there was memory for all of them
pub record Written : Type 0 where
  pub bytes : List ℕ
  pub is_whole : Bool

-- a text that is complete now was complete before, and these bytes follow its old contents
abbrev pub Adds : List ℕ → Written → Written → Type 0
Adds bytes before after = after.is_whole ≡ true → (before.is_whole ≡ true) × (after.bytes ≡ before.bytes ++ bytes)

-- the same with some bytes
abbrev pub Extends : Written → Written → Type 0
Extends before after = after.is_whole ≡ true → (before.is_whole ≡ true) × ((bytes : List ℕ) × (after.bytes ≡ before.bytes ++ bytes))

-- the mark in a form that a number replaces
abbrev pub is_mark : ℕ → Bool
is_mark byte = byte == 36

abbrev pub has_mark : List ℕ → Bool
has_mark form = nat_lt (position_or_len is_mark form) (length form)

-- a form up to its first mark with a number in place of it, and the rest of the form; nothing and the whole form if it
-- has no mark
abbrev pub filled_by : ℕ → List ℕ → List ℕ
filled_by number form = if has_mark form then before_first is_mark form ++ decimal number else []

abbrev pub left_of : List ℕ → List ℕ
left_of form = if has_mark form then after_first is_mark form else form

-- a form with numbers in place of its marks, in order
abbrev pub filled : List ℕ → List ℕ → List ℕ
filled form [] = form
filled form (number ∷ more) = filled_by number form ++ filled (left_of form) more

-- one number fills a form, whose rest is this
abbrev pub Fills : ℕ → List ℕ → List ℕ → Written → Written → Type 0
Fills number form rest before after = Adds (filled_by number form) before after × (rest ≡ left_of form)

-- a number and its noun
abbrev pub counted : ℕ → List ℕ → List ℕ → List ℕ
counted number one more = decimal number ++ (32 ∷ (if number == 1 then one else more))
