-- What a list of words says, item by item.
use Rattle.std.specs.Prelude.{ℕ, ◌≡◌, ◌≢◌, ◌⊎◌, ⊤, List, [], ◌∷◌, Option, Some, None, if◌then◌else◌}
use Rattle.std.specs.Str.{bytes_eq}

-- a value or a positional word: not empty, and its first byte is not `-` (45)
abbrev pub IsPlain : List ℕ → Type 0
IsPlain [] = ⊥
IsPlain (byte ∷ bytes) = byte ≢ 45

-- an option's name with its value, or a positional word
pub data Said : Type 0 where
  Given : (option value : List ℕ) → Said
  Positional : (word : List ℕ) → Said

-- the words of an item
abbrev pub words_of : Said → List (List ℕ)
words_of (Given option value) = option ∷ value ∷ []
words_of (Positional word) = word ∷ []

-- the value or the positional word of an item is plain
abbrev pub IsPlainSaid : Said → Type 0
IsPlainSaid (Given option value) = IsPlain value
IsPlainSaid (Positional word) = IsPlain word

-- the positional words in order
abbrev pub positionals_of : List Said → List (List ℕ)
positionals_of [] = []
positionals_of (Given option value ∷ rest) = positionals_of rest
positionals_of (Positional word ∷ rest) = word ∷ positionals_of rest

-- the names of the options in order
abbrev pub options_of : List Said → List (List ℕ)
options_of [] = []
options_of (Given option value ∷ rest) = option ∷ options_of rest
options_of (Positional word ∷ rest) = options_of rest

-- the value of an option, if it is given
abbrev pub value_of : List Said → List ℕ → Option (List ℕ)
value_of [] name = None
value_of (Given option value ∷ rest) name = if bytes_eq option name then Some value else value_of rest name
value_of (Positional word ∷ rest) name = value_of rest name

-- the word is one of the list
abbrev pub IsOneOf : List (List ℕ) → List ℕ → Type 0
IsOneOf [] word = ⊥
IsOneOf (first ∷ rest) word = (word ≡ first) ⊎ IsOneOf rest word

-- no word occurs twice in the list
abbrev pub AreOnce : List (List ℕ) → Type 0
AreOnce [] = ⊤
AreOnce (first ∷ rest) = (IsOneOf rest first → ⊥) × AreOnce rest
