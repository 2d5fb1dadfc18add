-- The numbers of calls by the places of their names.
use Rattle.std.specs.Prelude.{ℕ, ◌+◌, List, [], ◌∷◌, nat_lt, nat_le, if◌then◌else◌}
use Rattle.c_tree.specs.RawTrees.{RawItemTree}
use Rattle.grammar_laws.specs.Nested.{is_call}
use Rattle.grammar_laws.specs.Places.{items_places}

-- how many of these places are less than one, and how many are at most one
abbrev pub lesser : ℕ → List ℕ → ℕ
lesser at [] = 0
lesser at (p ∷ ps) = (if nat_lt p at then 1 else 0) + lesser at ps

abbrev pub no_greater : ℕ → List ℕ → ℕ
no_greater at [] = 0
no_greater at (p ∷ ps) = (if nat_le p at then 1 else 0) + no_greater at ps

-- the rank of each place, counted after those that came earlier; of equal ones, which no source has, the earlier
-- comes first
abbrev pub ranks_after : List ℕ → List ℕ → List ℕ
ranks_after earlier [] = []
ranks_after earlier (p ∷ ps) = (no_greater p earlier + lesser p ps) ∷ ranks_after (p ∷ earlier) ps

abbrev pub ranks : List ℕ → List ℕ
ranks places = ranks_after [] places

-- the numbers of a tree's calls, in the order of the tree
abbrev pub site_numbers : List RawItemTree → List ℕ
site_numbers is = ranks (items_places is_call is)
