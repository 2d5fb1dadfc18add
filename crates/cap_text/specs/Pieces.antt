-- The pieces of a text between separators.
use Rattle.std.specs.Prelude.{◌≡◌, ℕ, List, [], ◌∷◌, ◌==◌, false, Option, Some, None}
use Rattle.std.specs.List.{slice_split, flat_map, AllByRecursion}
use denote.Ref.{Bor}

-- the pieces between the bytes that equal the separator; an empty text is one empty piece
abbrev pub pieces : ℕ → List ℕ → List (List ℕ)
pieces separator text = slice_split (λ byte. byte == separator) text

-- the remaining pieces, or none if no text remains
abbrev pub pieces_left : ℕ → Option (Bor (List ℕ)) → List (List ℕ)
pieces_left separator None = []
pieces_left separator (Some rest) = pieces separator rest.now

-- no byte of the text is the separator
abbrev pub Lacks : ℕ → List ℕ → Type 0
Lacks separator text = AllByRecursion (λ byte. (byte == separator) ≡ false) text

-- fields, each preceded by a separator
abbrev pub after_each : ℕ → List (List ℕ) → List ℕ
after_each separator fields = flat_map (λ field. separator ∷ field) fields
