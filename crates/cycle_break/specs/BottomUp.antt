-- A bottom-up order of functions.
use Rattle.std.specs.Prelude.{ℕ, ◌≡◌, true, ⊤, List, [], ◌∷◌}
use Rattle.std.specs.List.{AllByRecursion}
use Rattle.call_graph.specs.Callees.{callees}
use Rattle.call_graph.specs.Graph.{CallGraphState}
use Rattle.call_graph.specs.Index.{sites_of}
use Rattle.call_graph.specs.Lists.{has}

-- each callee of a function's sites, without some sites, is among these functions
abbrev pub CallsOnly : CallGraphState → List ℕ → List ℕ → ℕ → Type 0
CallsOnly graph without others function =
    AllByRecursion (λ site. AllByRecursion (λ callee. has callee others ≡ true) (callees graph.tables site.target)) (sites_of graph.sites without function)

-- the order, with the last function first: each function calls only functions before it
abbrev pub IsBottomUp : CallGraphState → List ℕ → List ℕ → Type 0
IsBottomUp graph without [] = ⊤
IsBottomUp graph without (function ∷ earlier) = CallsOnly graph without earlier function × IsBottomUp graph without earlier
