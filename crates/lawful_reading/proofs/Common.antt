-- The names that this crate's proofs cite from other crates and from its definitions, passed on from one place. Declares nothing.
pub use Rattle.std.proofs.Common.{[], ◌&&◌, ◌++◌, ◌+◌, ◌-◌, ◌<◌, ◌==◌, ◌^◌, ◌||◌, ◌∙◌, ◌∷◌, ◌≡◌, ◌≢◌, ◌≤◌, ◌⊎◌, Bool, FitsSigned, List, None, Option, Some, ap, append-nil, append_assoc, arith, false, find, get_or, inl, inr, length, length-append, negsuc, pos, refl, subst, suc, sym, true, zero, ℕ, ⊎_elim}
pub use Rattle.std.proofs.lemmas.Bool.{cases_lt, ne_eqb}
pub use Rattle.std.specs.List.{AllByRecursion}
pub use Rattle.std.specs.Prelude.{Contains, IsSome, IsTrue, filter, is_some, nat_eq, slice_get, ℤ}
pub use Rattle.blocking_graph.specs.Nodes.{keys_with, node_number}
pub use Rattle.c_mean.specs.Frames.{Waiting, key_of}
pub use Rattle.c_mean.specs.ModelledCalls.{ImmediateRow, blocking_row, immediate_row, is_dropped}
pub use Rattle.c_tree.specs.Trees.{ProgramTree}
pub use Rattle.cap_word.specs.Calls.{Blocking, Call, Immediate, most_threads}
pub use Rattle.cap_word.specs.Runs.{Asks, Goes, Stops, and_then, moves}
pub use Rattle.cap_word.specs.declared.stops.Stop.{Stop}
pub use Rattle.cap_word.specs.declared.traps.TrapKind.{TrapKind}
pub use Rattle.choice_rules.proofs.Deciding.{Below, Decided, Found, Number, Searched, all_decided, below_decided, bool_same, both_decided, decided_by, denied, either_decided, everywhere, held_decided, implied_decided, integer_same, le_decided, line_decided, list_same, number_same, numbers, only_decided, option_same, text_same}
pub use Rattle.choice_rules.proofs.Points.{not_refused, one_choice, one_clock, one_next, one_refusal, refused_number}
pub use Rattle.choice_rules.specs.Choice.{IsChoice, IsGraphChoice, IsLawful, IsLawfulBy, IsStrideChoice, goes_before_at, is_eligible, queue_at, score_of}
pub use Rattle.choice_rules.specs.Deliveries.{IsDelivery, delivery_of, item_of, received}
pub use Rattle.choice_rules.specs.Seen.{Seen, Waiter, end_node, last_choice}
pub use Rattle.choice_rules.specs.Trace.{IsNext, IsRefused, Trace, behind}
pub use Rattle.event_trace.specs.declared.events.Event.{Event}
pub use Rattle.schedule_log.specs.EntryRanges.{FitsAverages, FitsEntry, FitsItem, FitsKey, FitsStop}
pub use Rattle.schedule_log.specs.EntryText.{entry_text}
unfoldable pub use Rattle.schedule_log.specs.EntryText.{log_text}
pub use Rattle.schedule_log.specs.declared.entries.Entry.{Entry}
pub use Rattle.schedule_log.specs.declared.entries.Item.{Item}
pub use Rattle.schedule_log.specs.declared.entries.StopLine.{StopLine}
pub use Rattle.lawful_reading.specs.Choice.{IsComing, IsRun, chosen_from}
pub use Rattle.lawful_reading.specs.Ends.{IsCause, IsCut, IsEdge, IsStop, MayStop, StopsBy, edges_left}
pub use Rattle.lawful_reading.specs.Given.{Given, chunks_of}
pub use Rattle.lawful_reading.specs.Happenings.{ComesAt, IsCrowdedNext, IsSilent, PutsNext, RestsNext, live_in}
pub use Rattle.lawful_reading.specs.Reading.{BeginsWith, IsAllowed, IsBeyond, IsUnlawful, Leads, Needs, StopNeeds, by_line, nowhere}
pub use Rattle.lawful_reading.specs.Segments.{IsBlock, IsClosed, IsEnd, IsOut, rested}
pub use Rattle.lawful_reading.specs.State.{Edges, End, IsPossible, NotYet, Segment, State, Stopped, seen_of, start_of}
pub use Rattle.lawful_reading.specs.Judgements.{IsJudgement}
pub use Rattle.lawful_reading.specs.declared.judgement.Judgement.{Judgement}
