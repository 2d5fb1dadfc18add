-- The placement of checkpoints.
use Rattle.std.specs.Prelude.{ℕ, ◌≡◌, ◌+◌, ◌<◌, ◌||◌, nat_le, not, Bool, List, map, filter, length, slice_index}
use Rattle.call_graph.specs.declared.sites.GraphSite.{GraphSite}
use Rattle.call_graph.specs.Callees.{callees, greatest}
use Rattle.call_graph.specs.Graph.{CallGraphState, function_count}
use Rattle.call_graph.specs.Index.{sites_of}
use Rattle.call_graph.specs.Lists.{has}
use Rattle.checkpoint_place.specs.declared.plans.Plan.{Plan}

-- the greatest bound of a site's callees
abbrev pub callee_bound : List (List ℕ) → (ℕ → ℕ) → GraphSite → ℕ
callee_bound tables bound site = greatest bound (callees tables site.target)

-- whether the caller's weight plus a site's greatest callee bound is at most max path
abbrev pub is_within : List (List ℕ) → (ℕ → ℕ) → ℕ → ℕ → GraphSite → Bool
is_within tables bound max_path weight site = nat_le (weight + callee_bound tables bound site) max_path

-- a function's weight plus the greatest callee bound among those of its sites that are within max path, or its weight alone
abbrev pub bound_over : List (List ℕ) → (ℕ → ℕ) → ℕ → ℕ → List GraphSite → ℕ
bound_over tables bound max_path weight sites =
    weight + greatest (callee_bound tables bound) (filter (is_within tables bound max_path weight) sites)

-- whether a site is checkpointed: it is a back edge, or it isn't within max path
abbrev pub is_checkpointed : CallGraphState → List ℕ → ℕ → (ℕ → ℕ) → GraphSite → Bool
is_checkpointed graph back max_path bound site =
    has site.number back || not (is_within graph.tables bound max_path (slice_index graph.weights site.caller) site)

-- the placement of a graph with these back edges: each function's bound, over its sites that aren't back edges, and the
-- numbers of the checkpointed sites, in order
pub record IsPlacement (graph : CallGraphState) (back : List ℕ) (max_path : ℕ) (plan : Plan) : Type 0 where
  pub each : length plan.bounds ≡ function_count graph
  pub bounds : (function : ℕ) → function < function_count graph →
      slice_index plan.bounds function
      ≡ bound_over graph.tables (slice_index plan.bounds) max_path (slice_index graph.weights function) (sites_of graph.sites back function)
  pub checkpointed : plan.checkpointed
      ≡ map (λ site. site.number) (filter (is_checkpointed graph back max_path (slice_index plan.bounds)) graph.sites)
