-- The names that this crate's proofs cite from other crates and from its definitions, passed on from one place. Declares nothing.
pub use Rattle.std.proofs.Common.{[], ◌++◌, ◌+◌, ◌-◌, ◌<◌, ◌∙◌, ◌∷◌, ◌≡◌, ◌≤◌, Bool, List, None, Option, Some, ap, arith, drop, false, filter, get_or, inl, inr, length, map, max, nat_le, refl, reverse, set, slice_index, subst, suc, sym, take, true, vec_len, zero, ℕ}
pub use Rattle.std.proofs.ByRecursion.{All-weaker}
pub use Rattle.std.proofs.lemmas.Bool.Decides.{nat_tests}
pub use Rattle.std.proofs.lemmas.List.{get_or-set_other, get_or-set_same, get_or_read, map_more, reverse-reverse, take_all}
pub use Rattle.std.specs.List.{AllByRecursion}
pub use Rattle.call_graph.proofs.IndexLemmas.{by_eq, no_site}
pub use Rattle.call_graph.proofs.ListLemmas.{all-at, by_test}
pub use Rattle.call_graph.specs.Callees.{callees, greatest}
pub use Rattle.call_graph.specs.Graph.{CallGraphState, IsCallGraph, IsSiteOf, function_count}
pub use Rattle.call_graph.specs.Index.{LeadsTo, is_call_of, sites_of}
pub use Rattle.call_graph.specs.Lists.{has}
pub use Rattle.call_graph.specs.declared.sites.GraphSite.{GraphSite}
pub use Rattle.cycle_break.proofs.BottomUpOrders.{calls-within, next-calls, reverse-more, up-front}
pub use Rattle.cycle_break.proofs.NumberLemmas.{all-has, has-cases, has-head, has-tail, true_false}
pub use Rattle.cycle_break.proofs.RankLemmas.{has-reverse}
pub use Rattle.cycle_break.specs.BottomUp.{CallsOnly, IsBottomUp}
pub use Rattle.checkpoint_place.specs.KnownTables.{AreAmong, AreKnownAmong, CallAmong, IsKnown}
pub use Rattle.checkpoint_place.specs.Placement.{IsPlacement, bound_over, callee_bound, is_checkpointed, is_within}
pub use Rattle.checkpoint_place.specs.Refusal.{is_too_large, refusal_from}
