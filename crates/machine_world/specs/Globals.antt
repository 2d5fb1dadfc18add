-- The globals of a source and of flat code, a row of words for each, and the global words of the areas, which are these
-- rows one after another.
use Rattle.std.specs.Prelude.{◌≡◌, ℕ, List, length, map}
use Rattle.std.specs.List.{flat_map}
use Rattle.flat_code.specs.Codes.{FlatCode}

-- the number of words with which each global is declared
abbrev pub global_widths : FlatCode → List ℕ
global_widths code = map (λ g. g.words) code.globals

-- each row has the declared number of words, and the rows one after another are these words
pub record AreGlobals (code : FlatCode) (rows : List (List ℕ)) (words : List ℕ) : Type 0 where
  pub widths : map length rows ≡ global_widths code
  pub joined : flat_map (λ row. row) rows ≡ words
