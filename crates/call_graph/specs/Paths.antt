-- Paths of calls, and cycles.
use Rattle.std.specs.Prelude.{ℕ, ◌≡◌, ◌⊎◌, true, false, ◌+◌, List, [], ◌∷◌, slice_index}
use Rattle.call_graph.specs.declared.sites.GraphSite.{GraphSite}
use Rattle.call_graph.specs.Callees.{callees}
use Rattle.call_graph.specs.Graph.{CallGraphState}
use Rattle.call_graph.specs.Lists.{has}

-- a site is one of these
abbrev pub IsAmong : List GraphSite → GraphSite → Type 0
IsAmong [] site = ⊥
IsAmong (first ∷ sites) site = (first ≡ site) ⊎ IsAmong sites site

-- a call on a path: its site, and the function that it enters
pub record Call : Type 0 where
  pub site : GraphSite
  pub callee : ℕ

-- a call by a function of a graph, at a site that isn't one of these
pub record IsCallBy (graph : CallGraphState) (without : List ℕ) (from : ℕ) (call : Call) : Type 0 where
  pub site : IsAmong graph.sites call.site
  pub caller : call.site.caller ≡ from
  pub kept : has call.site.number without ≡ false
  pub callee : has call.callee (callees graph.tables call.site.target) ≡ true

-- calls that lead from one function to another, none at these sites
abbrev pub IsPath : CallGraphState → List ℕ → ℕ → List Call → ℕ → Type 0
IsPath graph without from [] to = from ≡ to
IsPath graph without from (call ∷ calls) to = IsCallBy graph without from call × IsPath graph without call.callee calls to

-- these sites break every cycle: without them no path of calls leads back to its start
abbrev pub BreaksEveryCycle : CallGraphState → List ℕ → Type 0
BreaksEveryCycle graph numbers = (function : ℕ) (call : Call) (calls : List Call) → ¬ (IsPath graph numbers function (call ∷ calls) function)

-- the sum of the weights of a function and of those that the calls enter
abbrev pub weight_along : CallGraphState → ℕ → List Call → ℕ
weight_along graph from [] = slice_index graph.weights from
weight_along graph from (call ∷ calls) = slice_index graph.weights from + weight_along graph call.callee calls
