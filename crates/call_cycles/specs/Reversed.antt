-- Calls in the other direction.
use Rattle.std.specs.Prelude.{ℕ, ◌<◌, List, [], length}
use Rattle.std.specs.List.{AllByRecursion}
use Rattle.call_graph.specs.declared.sites.GraphSite.{GraphSite}
use Rattle.call_graph.specs.Graph.{IsSiteOf, IsRising}

-- sites of a graph with this number of nodes and no tables, numbered in order from 0
pub record AreNumbered (nodes : ℕ) (sites : List GraphSite) : Type 0 where
  pub all : AllByRecursion (IsSiteOf nodes []) sites
  pub rising : IsRising sites
  pub below : AllByRecursion (λ (site : GraphSite). site.number < length sites) sites
