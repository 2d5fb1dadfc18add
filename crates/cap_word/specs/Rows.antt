-- The words of names: for each name, by its number, a row of words: one word for a scalar, and for an array its size.
use Rattle.std.specs.Prelude.{ℕ, List, [], ◌∷◌, map, length, replicate, slice_index, slice_index_or, slice_set}

-- the row of name x; the row of a name isn't empty
abbrev pub row : List (List ℕ) → ℕ → List ℕ
row rows x = slice_index_or rows x []

-- the number of words of name x
abbrev pub width : List (List ℕ) → ℕ → ℕ
width rows x = length (row rows x)

-- the word of name x at index i
abbrev pub word_at : List (List ℕ) → ℕ → ℕ → ℕ
word_at rows x i = slice_index (row rows x) i

-- the rows after that word is set; the others stay the same
abbrev pub with_word : List (List ℕ) → ℕ → ℕ → ℕ → List (List ℕ)
with_word rows x i value = slice_set rows x (slice_set (row rows x) i value)

-- the rows after all words of name x are set to 0
abbrev pub with_zeros : List (List ℕ) → ℕ → List (List ℕ)
with_zeros rows x = slice_set rows x (replicate (width rows x) 0)

-- rows of these widths, all words 0
abbrev pub zeros : List ℕ → List (List ℕ)
zeros widths = map (λ n. replicate n 0) widths

-- scalars with these values
abbrev pub scalars : List ℕ → List (List ℕ)
scalars values = map (λ v. v ∷ []) values
