-- The greatest weight of a path of calls.
use Rattle.std.specs.Prelude.{ℕ, ◌≡◌, ◌≤◌, List}
use Rattle.call_graph.specs.Graph.{CallGraphState}
use Rattle.call_graph.specs.Paths.{Call, IsPath, weight_along}

-- a path of calls from a function, none at these sites, with this sum of weights
pub record IsWeightOfPath (graph : CallGraphState) (without : List ℕ) (from weight : ℕ) : Type 0 where
  pub calls : List Call
  pub to : ℕ
  pub path : IsPath graph without from calls to
  pub sum : weight_along graph from calls ≡ weight

-- every path of calls from a function, none at these sites, has at most this weight, and some path has exactly
-- it
pub record IsGreatestWeight (graph : CallGraphState) (without : List ℕ) (from weight : ℕ) : Type 0 where
  pub most : (calls : List Call) (to : ℕ) → IsPath graph without from calls to → weight_along graph from calls ≤ weight
  pub some : IsWeightOfPath graph without from weight
