-- The functions that a call may enter.
use Rattle.std.specs.Prelude.{ℕ, max, List, [], ◌∷◌}
use Rattle.std.specs.List.{slice_index_or}
use Rattle.call_graph.specs.declared.sites.Target.{Target}
use Rattle.call_graph.specs.declared.sites.Target.TheVariants.{Function, Table}

-- the functions that a call of this target may enter: the function, or each member of the table
abbrev pub callees : List (List ℕ) → Target → List ℕ
callees tables (Function function) = function ∷ []
callees tables (Table table) = slice_index_or tables table []

-- the greatest value of some elements, or 0 if there are none
abbrev pub greatest : {X : Type 0} → (X → ℕ) → List X → ℕ
greatest value [] = 0
greatest value (x ∷ xs) = max (value x) (greatest value xs)
