use Rattle.std.proofs.Common.{ℕ, ◌+◌, ◌<◌, List, [], ◌∷◌, length}
use Rattle.std.specs.List.{AllByRecursion}
use Rattle.call_graph.specs.Graph.{IsRising, IsSiteOf}
use Rattle.pair_rows.proofs.RisingSites.{NumbersBelow}
use Rattle.pair_rows.proofs.large_graphs.sites_of.Given as goal

abbrev pub invariant-loop-number : goal.invariant-loop-number
invariant-loop-number l = record {
  sound : (members : List ℕ) → 0 < length members → AllByRecursion (λ f. f < l.last + 1) members → AllByRecursion (IsSiteOf (l.last + 1) (members ∷ [])) l.sites.items;
  rising : IsRising l.sites.items;
  below : NumbersBelow l.number l.sites.items;
}
