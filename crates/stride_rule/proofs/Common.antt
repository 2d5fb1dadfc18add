-- The names that this crate's proofs cite from other crates and from its definitions, passed on from one place. Declares nothing.
pub use Rattle.std.proofs.Common.{[], ◌%◌, ◌&&◌, ◌*◌, ◌++◌, ◌+◌, ◌-◌, ◌/◌, ◌<◌, ◌^◌, ◌||◌, ◌∙◌, ◌∷◌, ◌≡◌, ◌≢◌, ◌≤◌, ◌⊎◌, Bool, IsTrue, List, None, Option, Some, ap, arith, drop, false, filter, if◌then◌else◌, inl, inr, length, max, min, not, refl, rules, slice_set, subst, suc, sym, true, zero, ℕ, ⊎_elim}
pub use Rattle.blocking_graph.proofs.PairLemmas.{by_test}
pub use Rattle.ready_tree.proofs.NeedLaws.{eq_true}
pub use Rattle.std.proofs.lemmas.Bool.{and_parts, cases_eq}
pub use Rattle.std.proofs.lemmas.Bool.Decides.{nat_tests}
pub use Rattle.std.proofs.lemmas.List.{get_or-set_other, get_or-set_same, get_or_default, length-set, with_items_is}
pub use Rattle.std.specs.List.{AllByRecursion, list_all}
pub use Rattle.std.specs.Prelude.{IfSome, IsSome, ⊤, ◌==◌}
pub use Rattle.cap_word.specs.declared.threads.ThreadId.{ThreadId}
pub use Rattle.ready_tree.specs.Needs.{is_met, is_some_met}
pub use Rattle.ready_tree.specs.declared.bounds.Bounds.{Bounds}
pub use Rattle.ready_tree.specs.declared.needs.Need.{Need}
pub use Rattle.stride_rule.specs.Choices.{IsFirst, IsFirstEligible, IsLawfulStrideChoice, IsLawfulStrideThread, choice_among}
pub use Rattle.stride_rule.specs.Clients.{IsAbsent, client_of, goes_before, grown, is_before, is_running, pass_in, with_growth, without}
pub use Rattle.stride_rule.specs.Rows.{clients_of, is_of, is_there, needs_in, pass_of, row_at, row_grown, row_told}
pub use Rattle.stride_rule.specs.Search.{better, found_among, found_with, is_before_best, met_among, met_with}
pub use Rattle.stride_rule.specs.Spread.{apart_in, first_pass, least_among, least_from, most_among, most_from}
pub use Rattle.stride_rule.specs.State.{AreExact, AreKnown, AreOnce, IsClient, IsKept, IsNear, IsNotedAs, IsNotedAsIf, StrideState, after_choice, after_leaving, after_segment, after_segment_for, waiting_in, waiting_of, with_client}
pub use Rattle.stride_rule.specs.Summaries.{Covers, Includes, may_help, summary_at}
pub use Rattle.stride_rule.specs.Tickets.{AreTicketsFrom, stride_of, tickets_of}
pub use Rattle.stride_rule.specs.Told.{need_of, with_need, without_need}
pub use Rattle.stride_rule.specs.declared.choices.StrideChoice.{StrideChoice}
pub use Rattle.stride_rule.specs.declared.clients.Client.{Client}
pub use Rattle.stride_rule.specs.declared.rows.Row.{Row}
pub use Rattle.stride_rule.specs.declared.summaries.Summary.{Summary}
