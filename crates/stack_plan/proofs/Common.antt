-- The names that this crate's proofs cite from other crates and from its definitions, passed on from one place. Declares nothing.
pub use Rattle.std.proofs.Common.{[], ◌++◌, ◌+◌, ◌<◌, ◌^◌, ◌∙◌, ◌∷◌, ◌≡◌, ◌≤◌, Bool, List, ap, arith, drop, false, filter, inl, inr, length, map, nat_le, not, refl, subst, suc, sum, sym, true, zero, ℕ}
pub use Rattle.checkpoint_place.proofs.WeightLemmas.{greatest-among}
pub use Rattle.std.proofs.lemmas.Bool.Decides.{nat_tests}
pub use Rattle.std.specs.List.{All, AllByRecursion, cons_option, filter_map}
pub use Rattle.std.specs.Prelude.{Err, IfSome, None, Ok, Option, Some, slice_get, slice_index, slice_index_or, ◌||◌}
pub use Rattle.call_graph.proofs.ListLemmas.{by_test}
pub use Rattle.call_graph.specs.Callees.{callees, greatest}
pub use Rattle.call_graph.specs.FlatCalls.{call_site, call_sites_from}
pub use Rattle.call_graph.specs.Graph.{CallGraphState, IsCallGraph, IsRising, IsSiteOf, function_count}
pub use Rattle.call_graph.specs.Lists.{has}
pub use Rattle.call_graph.specs.Paths.{IsAmong}
pub use Rattle.call_graph.specs.declared.sites.GraphSite.{GraphSite}
pub use Rattle.checkpoint_place.specs.Refusal.{is_too_large, refusal_from}
pub use Rattle.cycle_break.proofs.NumberLemmas.{has-head, has-tail, true_false}
pub use Rattle.flat_code.specs.Weight.{weight_of}
pub use Rattle.flat_code.specs.declared.functions.FlatFunction.{FlatFunction}
pub use Rattle.stack_plan.specs.Plans.{IsEnough, IsGraphOf}
