-- The names that this crate's proofs cite from other crates and from its definitions, passed on from one place. Declares nothing.
pub use Rattle.std.proofs.Common.{[], ◌*◌, ◌++◌, ◌+◌, ◌-◌, ◌<◌, ◌==◌, ◌||◌, ◌∙◌, ◌∷◌, ◌≡◌, ◌≢◌, ◌≤◌, ◌⊎◌, Bool, List, None, Some, ap, arith, drop, false, filter, find, get_or, if◌then◌else◌, inl, inr, length, map, max, nat_le, nat_lt, not, refl, reverse, rules, set, slice_get, slice_index, subst, suc, sym, take, true, vec_len, zero, ℕ}
pub use Rattle.std.proofs.ByRecursion.{All-weaker}
pub use Rattle.std.proofs.lemmas.Bool.Decides.{nat_tests}
pub use Rattle.std.proofs.lemmas.List.{drop_all, get_or-set_other, get_or-set_same, get_or_read, length-map, length-reverse, length-set, reverse-append, reverse-reverse}
pub use Rattle.std.proofs.lemmas.Result.{IfOk-weaker}
pub use Rattle.std.specs.List.{AllByRecursion, list_any}
pub use Rattle.std.specs.List.Sorted.{IsStrictlyIncreasing}
pub use Rattle.call_graph.proofs.IndexLemmas.{by_eq, no_site, sites_of-here}
pub use Rattle.call_graph.proofs.ListLemmas.{all-at, by_test}
pub use Rattle.call_graph.specs.Callees.{callees, greatest}
pub use Rattle.call_graph.specs.Graph.{CallGraphState, IsCallGraph, IsRising, IsSiteOf, function_count}
pub use Rattle.call_graph.specs.Index.{LeadsTo, is_call_of, sites_of}
pub use Rattle.call_graph.specs.Lists.{IsOnce, has}
pub use Rattle.call_graph.specs.Paths.{BreaksEveryCycle, Call, IsAmong, IsCallBy, IsPath}
pub use Rattle.call_graph.specs.declared.sites.GraphSite.{GraphSite}
pub use Rattle.cycle_break.specs.BackEdges.{back_edges}
pub use Rattle.cycle_break.specs.BottomUp.{IsBottomUp}
pub use Rattle.cycle_break.specs.Trail.{AreMarkedBelow, IsMarked, IsSeen, come, is_later, is_marked, place_from, rank, unmarked}
pub use Rattle.cycle_break.specs.Walk.{Walked, into_each, is_visited, leave, note, numbers_from, start, through, whole_walk}
unfoldable pub use Rattle.cycle_break.specs.Walk.{walk}
pub use Rattle.cycle_break.specs.declared.path.Frame.{Frame}
