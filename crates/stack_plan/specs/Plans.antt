-- The plan of a program: the calls that test the stack, and what this implies for frames and bounds.
use Rattle.std.specs.Prelude.{ℕ, ◌≡◌, ◌+◌, ◌<◌, ◌≤◌, false, List, length, map, slice_index, Some}
use Rattle.std.specs.List.Sorted.{IsPermutation, IsStrictlyIncreasing}
use Rattle.flat_code.specs.declared.operations.Op.{Op}
use Rattle.flat_code.specs.Codes.{FlatCode, function_at, operation_at}
use Rattle.flat_code.specs.Weight.{weight_of}
use Rattle.call_graph.specs.declared.sites.GraphSite.{GraphSite}
use Rattle.call_graph.specs.Callees.{callees, greatest}
use Rattle.call_graph.specs.FlatCalls.{call_site, call_sites_from}
use Rattle.call_graph.specs.Graph.{CallGraphState, IsRising}
use Rattle.call_graph.specs.Lists.{has}
use Rattle.checkpoint_place.specs.declared.plans.Plan.{Plan}

-- the size of each function's frame in bytes
abbrev pub weights_of : FlatCode → List ℕ
weights_of code = map (λ f. weight_of f.sizes) code.functions

-- the call graph of a program: the weight of a function is the size of its frame
pub record IsGraphOf (code : FlatCode) (graph : CallGraphState) : Type 0 where
  pub weights : graph.weights ≡ weights_of code
  pub tables : graph.tables ≡ code.tables
  pub main : graph.main ≡ code.main
  pub sites : IsPermutation (call_sites_from 0 code.functions) graph.sites
  pub rising : IsRising graph.sites

-- what code may rely on in a plan: a bound for each function, checkpointed numbers that increase, no frame above 2,032
-- bytes or its function's bound, no bound above max path, and, at each call that isn't checkpointed, the caller's frame
-- plus the bound of each callee within the caller's bound
pub record IsEnough (code : FlatCode) (max_path : ℕ) (plan : Plan) : Type 0 where
  pub each : length plan.bounds ≡ length code.functions
  pub rising : IsStrictlyIncreasing plan.checkpointed
  pub frame : (f : ℕ) → f < length code.functions → weight_of (function_at code f).sizes ≤ 2032
  pub bound : (f : ℕ) → f < length code.functions → weight_of (function_at code f).sizes ≤ slice_index plan.bounds f
  pub most : (f : ℕ) → f < length code.functions → slice_index plan.bounds f ≤ max_path
  pub plain : (f i : ℕ) (op : Op) (site : GraphSite) → operation_at code f i ≡ Some op → call_site f op ≡ Some site → has site.number plan.checkpointed ≡ false →
      weight_of (function_at code f).sizes + greatest (slice_index plan.bounds) (callees code.tables site.target) ≤ slice_index plan.bounds f
