-- A bottom-up order of functions, and the call graph from which it is computed.
use Rattle.std.specs.Prelude.{ℕ, ◌≡◌, ◌<◌, ⊤, List, length, slice_index}
use Rattle.std.specs.List.Sorted.{IsPermutation}
use Rattle.flat_code.specs.Codes.{FlatCode}
use Rattle.call_graph.specs.FlatCalls.{call_sites_from}
use Rattle.call_graph.specs.Graph.{CallGraphState, function_count}
use Rattle.call_cycles.specs.declared.orders.OrderError.{OrderError}
use Rattle.call_cycles.specs.declared.orders.OrderError.TheVariants.{Cycle, Memory}
use Rattle.call_cycles.specs.Cycles.{Calls, IsLeast, IsOnCycle}

-- the call graph of a program, with any weights
pub record IsGraph (code : FlatCode) (graph : CallGraphState) : Type 0 where
  pub count : function_count graph ≡ length code.functions
  pub tables : graph.tables ≡ code.tables
  pub sites : IsPermutation (call_sites_from 0 code.functions) graph.sites

-- a function is in a list before an index
pub record StandsBefore (order : List ℕ) (end f : ℕ) : Type 0 where
  pub place : ℕ
  pub before : place < end
  pub is : slice_index order place ≡ f

-- each function of a list comes after those that it calls
abbrev pub IsFromBottom : FlatCode → List ℕ → Type 0
IsFromBottom code order = (i g : ℕ) → i < length order → Calls code (slice_index order i) g → StandsBefore order i g

-- the least function on a cycle is named; out of memory says nothing
abbrev pub IsOrderRefusal : FlatCode → OrderError → Type 0
IsOrderRefusal code (Cycle f) = IsLeast (IsOnCycle code) f
IsOrderRefusal code Memory = ⊤
