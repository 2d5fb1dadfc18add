-- The names that this crate's proofs cite from other crates and from its definitions, passed on from one place. Declares nothing.
pub use Rattle.blocking_graph.proofs.SumLemmas.{not_at}
pub use Rattle.ready_tree.proofs.PlaceLaws.{some_is}
pub use Rattle.std.proofs.Common.{[], ◌&&◌, ◌*ℤ◌, ◌*◌, ◌++◌, ◌+ℤ◌, ◌+◌, ◌-◌, ◌<◌, ◌^◌, ◌||◌, ◌∙◌, ◌∷◌, ◌≡◌, ◌≢◌, ◌≤◌, Bool, Contains, FitsSigned, IfSome, IsSome, List, None, Option, Some, add-one, ap, arith, below_more, cond, false, find, get_or, get_or-set_other, get_or-set_same, if◌then◌else◌, length, length-set, nat_lt, negsuc, not, of_z, pos, position, refl, rules, set, slice_index, slice_index_or, slice_set, subst, suc, sym, to_z, true, unsigned_abs, zero, ℕ, ℤ, ⊎_elim}
pub use Rattle.blocking_graph.proofs.PairLemmas.{by_test}
pub use Rattle.blocking_graph.proofs.PredictionLemmas.{sum-le}
pub use Rattle.std.proofs.lemmas.Bool.{cases_eq, cases_lt}
pub use Rattle.std.proofs.lemmas.Bool.Decides.{nat_tests}
pub use Rattle.std.specs.BTreeMap.{BTreeMap, get, is_at}
pub use Rattle.std.specs.Int.{w128}
pub use Rattle.std.specs.List.{AllByRecursion, position_or_len}
pub use Rattle.std.specs.Ordering.{nat_cmp}
pub use Rattle.blocking_graph.specs.Edges.{prediction}
pub use Rattle.cap_word.specs.declared.threads.ThreadId.{ThreadId}
pub use Rattle.ready_tree.specs.Entries.{entries_of, is_of, may_go, place_at}
pub use Rattle.ready_tree.specs.declared.bounds.Bounds.{Bounds}
pub use Rattle.ready_tree.specs.declared.entries.Entry.{Entry}
pub use Rattle.resource_monitor.specs.Monitor.{MonitorState, pressure_at}
pub use Rattle.scheduler.specs.LawfulChoice.{IsLawfulChoice, is_eligible}
pub use Rattle.scheduler.specs.Queues.{AreExact, entries_in, is_same, passes_at, places_in, places_of, queue_in, queues_of, threads_of, without, without_entry}
pub use Rattle.scheduler.specs.Scores.{comes_before, ranks_below, score, score_by}
unfoldable pub use Rattle.scheduler.specs.Scores.{score_of_first}
pub use Rattle.scheduler.specs.Search.{IsBestOf, IsFound, IsFoundIf, IsNoBetter, IsPassed, IsRankOf, choice_of, is_rank_below, is_rank_below_best}
pub use Rattle.scheduler.specs.State.{IsJoined, IsNoted, IsTaken, IsTold, SchedulerState, last_of, queue_of}
pub use Rattle.scheduler.specs.declared.choices.Choice.{Choice}
