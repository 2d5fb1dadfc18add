-- The names that this crate's proofs cite from other crates and from its definitions, passed on from one place. Declares nothing.
pub use Rattle.std.proofs.Common.{[], ◌&&◌, ◌++◌, ◌+◌, ◌-◌, ◌<◌, ◌==◌, ◌^◌, ◌||◌, ◌∙◌, ◌∷◌, ◌≡◌, ◌≢◌, ◌≤◌, Bool, List, None, Option, Some, ap, append-nil, arith, cond, drop, false, inl, inr, length, map, not, pos, refl, subst, suc, sym, true, zero, ℕ, ⊎_elim}
pub use Rattle.blocking_graph.proofs.PairLemmas.{by_test}
pub use Rattle.std.proofs.ByRecursion.{All-append}
pub use Rattle.std.proofs.lemmas.Bool.{and_from, and_right, cases_eq, cond-false, cond-true, eq-eqb, eqb-true, ne_eqb, or_from, or_left, or_parts, or_right}
pub use Rattle.std.proofs.lemmas.Bool.Decides.{nat_tests}
pub use Rattle.std.specs.List.{AllByRecursion, list_any, range_with_len}
pub use Rattle.std.specs.Prelude.{All, Contains, IsSome, IsTrue, filter, find, nat_eq, nat_le, slice_index, slice_index_or, unsigned_abs, ℤ, ◌-ℤ◌}
pub use Rattle.blocking_graph.specs.Edges.{edges_of, edges_with}
pub use Rattle.cap_word.specs.declared.threads.ThreadId.{ThreadId}
pub use Rattle.event_trace.specs.declared.events.Event.{Event}
pub use Rattle.scheduler.specs.Queues.{is_same, without}
pub use Rattle.scheduler.specs.Scores.{comes_before, ranks_below, score}
pub use Rattle.scheduler.specs.State.{IsJoined, IsNoted, SchedulerState, last_of, queue_of}
pub use Rattle.scheduler.specs.declared.choices.Choice.{Choice}
pub use Rattle.stride_rule.proofs.OrderLemmas.{goes_before-asym, goes_before-cotrans, goes_before-total}
pub use Rattle.choice_rules.specs.Choice.{IsChoice, IsGraphChoice, IsLawful, IsLawfulBy, IsStrideChoice, goes_before_at, is_eligible, is_open, monitor_of, queue_at, score_of}
pub use Rattle.choice_rules.specs.Clock.{IsChoicePoint, IsClockBy, IsLeastOf, event_times, is_due}
pub use Rattle.choice_rules.specs.Policy.{Policy, Rule, all_caps, by_graph, by_stride}
pub use Rattle.choice_rules.specs.Readiness.{any_elsewhere, any_ready, at_accept, is_ready, waking_times}
pub use Rattle.choice_rules.specs.Seen.{Past, PastChoice, Seen, Waiter, changes, last_choice, newcomers}
pub use Rattle.choice_rules.specs.Strides.{latest_pass, pass_of}
pub use Rattle.choice_rules.specs.Waiting.{AreQueued, IsOnce, IsPlaced, IsQueue, at_node, waits}
