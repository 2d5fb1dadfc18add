-- Whether there are statements in a list.
use Rattle.std.specs.Prelude.{Bool, true, false, List, [], ◌∷◌}
use Rattle.c_tree.specs.RawTrees.{RawStmtTree}

abbrev pub are_some : List RawStmtTree → Bool
are_some [] = false
are_some (s ∷ ss) = true

-- whether there is more than one
abbrev pub are_many : List RawStmtTree → Bool
are_many [] = false
are_many (s ∷ ss) = are_some ss
