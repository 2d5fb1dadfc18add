-- The names that this crate's proofs cite from other crates and from its definitions, passed on from one place. Declares nothing.
pub use Rattle.stack_plan.proofs.Enough.{weights-count}
pub use Rattle.std.proofs.Common.{[], ◌++◌, ◌+◌, ◌-◌, ◌<◌, ◌^◌, ◌∙◌, ◌∷◌, ◌≡◌, ◌≤◌, Bool, List, ap, arith, drop, false, length, map, refl, subst, suc, sum, sym, true, ℕ}
pub use Rattle.std.specs.List.{AllByRecursion}
pub use Rattle.std.specs.Prelude.{None, Some, option_map, slice_index}
pub use Rattle.c_lower.specs.ProgramCode.{function_sizes, lowered, lowered_function}
pub use Rattle.c_tree.specs.ProgramView.{program_tree}
pub use Rattle.c_tree.specs.Views.{function_tree, table_row}
pub use Rattle.call_graph.specs.FlatCalls.{call_sites_from}
pub use Rattle.call_graph.specs.Graph.{CallGraphState, IsUnsortedGraph}
pub use Rattle.call_graph.specs.declared.sites.GraphSite.{GraphSite}
pub use Rattle.checkpoint_place.specs.declared.plans.Plan.{Plan}
pub use Rattle.flat_code.specs.Codes.{FlatCode, function_at, operation_at}
pub use Rattle.flat_code.specs.Weight.{weight_of}
pub use Rattle.flat_code.specs.declared.functions.FlatFunction.{FlatFunction}
pub use Rattle.stack_plan.specs.Plans.{IsEnough, weights_of}
pub use Rattle.stack_build.specs.Builds.{IsLaidOut, IsPlacedBy, frame_refusal}
