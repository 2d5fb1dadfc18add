-- The names that this crate's proofs cite from other crates and from its definitions, passed on from one place. Declares nothing.
pub use Rattle.cycle_break.proofs.PathLemmas.{unmarked-set}
pub use Rattle.std.proofs.Common.{[], ◌++◌, ◌+◌, ◌<◌, ◌==◌, ◌∙◌, ◌∷◌, ◌≡◌, ◌≤◌, ◌⊎◌, Bool, List, ap, arith, false, get_or, inl, inr, length, length-append, refl, replicate, reverse, rules, set, subst, suc, sym, take, true, vec_len, zero, ℕ, ⊎_elim}
pub use Rattle.cycle_break.proofs.SeenLemmas.{mark-stays}
pub use Rattle.std.proofs.ByRecursion.{All-push, All-weaker}
pub use Rattle.std.proofs.lemmas.Bool.{cases_lt, not-true}
pub use Rattle.std.proofs.lemmas.Grind.{common_steps}
pub use Rattle.std.proofs.lemmas.List.{get_or-replicate, get_or-set_other, get_or-set_same, get_or_past, get_or_read, length-replicate, length-set, take_all}
pub use Rattle.std.proofs.lemmas.Option.{none-some, same_Some, slice_get_read, slice_get_within}
pub use Rattle.std.proofs.lemmas.Result.{IfOk-weaker}
pub use Rattle.std.specs.List.{AllByRecursion, cons_option, filter_map}
pub use Rattle.std.specs.Prelude.{None, Option, Some, slice_get, slice_index_or}
pub use Rattle.call_graph.proofs.IndexLemmas.{by_eq}
pub use Rattle.call_graph.proofs.ListLemmas.{all-at, by_test}
pub use Rattle.call_graph.specs.Graph.{CallGraphState, IsRising, IsSiteOf, function_count}
pub use Rattle.call_graph.specs.Lists.{has}
pub use Rattle.call_graph.specs.Paths.{BreaksEveryCycle, Call, IsAmong, IsCallBy, IsPath}
pub use Rattle.call_graph.specs.declared.sites.GraphSite.{GraphSite}
pub use Rattle.call_graph.specs.declared.sites.Target.TheVariants.{Function, Table}
pub use Rattle.cycle_break.proofs.NumberLemmas.{all-has, has-cases, has-head, true_false}
pub use Rattle.cycle_break.proofs.RankLemmas.{has-reverse}
pub use Rattle.cycle_break.specs.BottomUp.{CallsOnly, IsBottomUp}
pub use Rattle.cycle_break.specs.Trail.{is_marked, unmarked}
pub use Rattle.flat_code.specs.Codes.{FlatCode, function_at, members_of, operation_at}
pub use Rattle.flat_code.specs.ProgramView.{program_code}
pub use Rattle.flat_code.specs.declared.operations.Op.{Op}
pub use Rattle.call_cycles.specs.Cycles.{Calls, IsLeastOf, IsOnCycle, IsWay, Reaches, functions_called}
pub use Rattle.call_cycles.specs.Marks.{AreOffCycles, AreSeen, IsClosed, Marks}
pub use Rattle.call_cycles.specs.Orders.{IsFromBottom, IsGraph, StandsBefore}
pub use Rattle.call_cycles.specs.Reversed.{AreNumbered}
