-- The depth-first walk over a call graph.
use Rattle.std.specs.Prelude.{ℕ, zero, suc, ◌||◌, ◌+◌, Bool, if◌then◌else◌, List, [], ◌∷◌}
use Rattle.std.specs.List.{list_any}
use Rattle.call_graph.specs.declared.sites.GraphSite.{GraphSite}
use Rattle.call_graph.specs.Callees.{callees}
use Rattle.call_graph.specs.Graph.{CallGraphState, function_count}
use Rattle.call_graph.specs.Index.{sites_of}
use Rattle.call_graph.specs.Lists.{has}

-- the state of a walk: the functions that it has left, the last first, and the numbers of the back edges so far
pub record Walked : Type 0 where
  pub left : List ℕ
  pub back : List ℕ

-- a walk before its first function
abbrev pub start : Walked
start = record { left = []; back = [] }

-- whether a function has been visited: it is on the current path of the walk, or has been left
abbrev pub is_visited : List ℕ → Walked → ℕ → Bool
is_visited path walked function = has function path || has function walked.left

-- a function is left
abbrev pub leave : ℕ → Walked → Walked
leave function walked = record { left = function ∷ walked.left; back = walked.back }

-- a site is a back edge if one of its callees is on the current path
abbrev pub note : List (List ℕ) → List ℕ → GraphSite → Walked → Walked
note tables path site walked =
    if list_any (λ callee. has callee path) (callees tables site.target) then record { left = walked.left; back = site.number ∷ walked.back } else walked

-- the walk descends into each of these functions that hasn't been visited, in order
abbrev pub into_each : (List ℕ → ℕ → Walked → Walked) → List ℕ → List ℕ → Walked → Walked
into_each go path [] walked = walked
into_each go path (callee ∷ callees) walked =
    into_each go path callees (if is_visited path walked callee then walked else go path callee walked)

-- the walk goes through these sites, in order
abbrev pub through : (List ℕ → ℕ → Walked → Walked) → List (List ℕ) → List ℕ → List GraphSite → Walked → Walked
through go tables path [] walked = walked
through go tables path (site ∷ sites) walked =
    through go tables path sites (note tables path site (into_each go path (callees tables site.target) walked))

-- the walk of a function, below the functions on the path: through its sites, and then the function is left. The depth
-- is the number of functions that the path may still take; no function is on the path twice, so the number of functions
-- of the graph is enough
unfoldable pub walk : List (List ℕ) → List GraphSite → List ℕ → ℕ → List ℕ → ℕ → Walked → Walked
walk tables sites without zero path function walked = walked
walk tables sites without (suc depth) path function walked =
    leave function (through (walk tables sites without depth) tables (function ∷ path) (sites_of sites without function) walked)

-- this many numbers, from a number on
abbrev pub numbers_from : ℕ → ℕ → List ℕ
numbers_from first zero = []
numbers_from first (suc count) = first ∷ numbers_from (first + 1) count

-- the whole walk, without these sites: from the start function, then from each function not yet visited, in order of
-- numbers
abbrev pub whole_walk : CallGraphState → List ℕ → Walked
whole_walk graph without =
    into_each (walk graph.tables graph.sites without (function_count graph)) [] (graph.main ∷ numbers_from 0 (function_count graph)) start
