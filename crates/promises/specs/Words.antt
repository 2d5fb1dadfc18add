-- The words of a command line.
use Rattle.std.specs.Prelude.{ℕ, ◌≡◌, List, ◌∷◌}
use Rattle.std.specs.List.{flat_map, AllByRecursion}
use Rattle.command_words.specs.Said.{Said, words_of, IsPlainSaid}

-- the words are a command and these items: options, each with its value, and positional words; no value and no
-- positional word begins with `-`
pub record AreOf (words : List (List ℕ)) (command : List ℕ) (items : List Said) : Type 0 where
  pub in_words : words ≡ command ∷ flat_map words_of items
  pub plain : AllByRecursion IsPlainSaid items
