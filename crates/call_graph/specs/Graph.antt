-- What a call graph means.
use Rattle.std.specs.Prelude.{ℕ, ◌<◌, ◌≤◌, ◌^◌, ⊤, List, [], ◌∷◌, length, map, eqb}
use Rattle.std.specs.List.{AllByRecursion, IsDistinct}
use Rattle.call_graph.specs.declared.sites.GraphSite.{GraphSite}
use Rattle.call_graph.specs.declared.sites.Target.{Target}
use Rattle.call_graph.specs.Callees.{callees}

-- the weights of the functions, the members of the tables, the call sites, and the start function
pub record CallGraphState : Type 0 where
  pub weights : List ℕ
  pub tables : List (List ℕ)
  pub sites : List GraphSite
  pub main : ℕ

-- the number of functions of a graph
abbrev pub function_count : CallGraphState → ℕ
function_count graph = length graph.weights

-- the invariant of a site's target: it has a callee, and each callee is a function
pub record IsTargetOf (functions : ℕ) (tables : List (List ℕ)) (target : Target) : Type 0 where
  pub some : 0 < length (callees tables target)
  pub all : AllByRecursion (λ f. f < functions) (callees tables target)

-- the invariant of a site: its caller is a function, and so are its callees
pub record IsSiteOf (functions : ℕ) (tables : List (List ℕ)) (site : GraphSite) : Type 0 where
  pub caller : site.caller < functions
  pub target : IsTargetOf functions tables site.target

-- the number of each site is below those of all sites after it
abbrev pub IsRising : List GraphSite → Type 0
IsRising [] = ⊤
IsRising (site ∷ sites) = AllByRecursion (λ (other : GraphSite). site.number < other.number) sites × IsRising sites

-- the invariant of a graph: at most 2^32 functions, every function's number is below their count, and the sites'
-- numbers increase
pub record IsCallGraph (graph : CallGraphState) : Type 0 where
  pub few : function_count graph ≤ 2 ^ 32
  pub main : graph.main < function_count graph
  pub tables : AllByRecursion (λ members. AllByRecursion (λ f. f < function_count graph) members) graph.tables
  pub sites : AllByRecursion (IsSiteOf (function_count graph) graph.tables) graph.sites
  pub rising : IsRising graph.sites

-- what a graph keeps, but that each number of a site is there once in place of their order
pub record IsUnsortedGraph (graph : CallGraphState) : Type 0 where
  pub few : function_count graph ≤ 2 ^ 32
  pub main : graph.main < function_count graph
  pub tables : AllByRecursion (λ members. AllByRecursion (λ f. f < function_count graph) members) graph.tables
  pub sites : AllByRecursion (IsSiteOf (function_count graph) graph.tables) graph.sites
  pub once : IsDistinct eqb (map (λ (site : GraphSite). site.number) graph.sites)
