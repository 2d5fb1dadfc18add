-- The numbers of the nodes: keys are numbered from 2, in the order in which they first occur.
use Rattle.std.specs.Prelude.{ℕ, ◌+◌, Bool, nat_eq, if◌then◌else◌, List, [], ◌∷◌, ◌++◌, fold}
use Rattle.std.specs.List.{list_any, position_or_len}
use Rattle.std.specs.Cmp.Lexicographic.{pointwise}

-- whether two keys are the same list of sites
abbrev pub same_key : List ℕ → List ℕ → Bool
same_key = pointwise nat_eq

-- the keys that have numbers, in order, after a key occurs
abbrev pub keys_with : List (List ℕ) → List ℕ → List (List ℕ)
keys_with keys key = if list_any (same_key key) keys then keys else keys ++ key ∷ []

-- the keys that have numbers after these keys have occurred, the earliest first
abbrev pub keys_of : List (List ℕ) → List (List ℕ)
keys_of appeared = fold keys_with [] appeared

-- the number of a key: nodes 0 and 1 are the start and the end
abbrev pub node_number : List (List ℕ) → List ℕ → ℕ
node_number keys key = 2 + position_or_len (same_key key) keys
