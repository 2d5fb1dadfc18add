-- The statements of a function that are kept.
use Rattle.std.specs.Prelude.{ℕ, nat_lt, List, [], ◌∷◌, ◌++◌, if◌then◌else◌}
use Rattle.c_tree.specs.Trees.{StmtTree}

-- statements and one more, before the site with this number; beyond the limit of calls none is kept
abbrev pub kept_with : ℕ → List StmtTree → StmtTree → List StmtTree
kept_with site ss s = if nat_lt 65535 site then [] else ss ++ s ∷ []
