-- The names that this crate's proofs cite from other crates and from its definitions, passed on from one place. Declares nothing.
pub use Rattle.std.proofs.Common.{[], ◌++◌, ◌+◌, ◌-◌, ◌<◌, ◌==◌, ◌^◌, ◌∙◌, ◌∷◌, ◌≡◌, ◌≤◌, Bool, Err, FitsSigned, IsSome, List, None, Ok, Option, Result, Some, ap, append-nil, arith, cond, drop, false, length, length-drop, not, of_z, refl, rules, subst, suc, sym, take, to_z, true, w32, ℕ}
pub use Rattle.lawful_reading.proofs.Once.{same_segment}
pub use Rattle.std.proofs.lemmas.Bool.{eq-eqb, eqb-true, false≢true, ne_eqb}
pub use Rattle.std.proofs.lemmas.Int.{to_z-of_z}
pub use Rattle.std.proofs.lemmas.Result.{err_from_is_err_and}
pub use Rattle.std.specs.Prelude.{IfSome, IsTrue, is_some, nat_lt, position, ℤ, ◌↔◌}
pub use Rattle.event_trace.specs.Reader.{ReaderState}
pub use Rattle.lawful_reading.specs.Given.{Given}
pub use Rattle.lawful_reading.specs.State.{Segment, State, seen_of, start_of}
pub use Rattle.lawful_reading.specs.Judgements.{IsJudgementOf}
pub use Rattle.lawful_reading.specs.declared.judgement.Judgement.{Judgement}
pub use Rattle.schedule_log.specs.EntryRanges.{FitsEntry}
pub use Rattle.schedule_log.specs.EntryText.{entry_text, log_text}
pub use Rattle.schedule_log.specs.declared.entries.Entry.{Entry}
pub use Rattle.schedule_log.specs.declared.entries.Item.{Item}
pub use Rattle.schedule_log.specs.declared.entries.StopLine.{StopLine}
pub use Rattle.schedule_reading.proofs.Cutting.{cause_crowd, cause_trap, cut_allowed, cut_beyond, cut_not, trap_late, trap_not, trap_ruled}
pub use Rattle.schedule_reading.proofs.Delivered.{counts_alone, memory_within}
pub use Rattle.schedule_reading.proofs.Ended.{cut_counts, cut_stop, fuel_spent, going_on, none_left, some_left, stop_early, stop_ends, stop_not}
pub use Rattle.schedule_reading.proofs.Others.{block_other, end_other}
pub use Rattle.schedule_reading.proofs.Proceeding.{came_beyond, came_blocks, came_ends, came_traps, has_proceeded, late, may_run, not_yet}
pub use Rattle.schedule_reading.proofs.Ready.{away_now, fuel_now, keys_now, live_now, may_close_now, there_now}
pub use Rattle.schedule_reading.proofs.Unstopped.{between_by, stands_as, stands_by}
pub use Rattle.schedule_reading.specs.Changes.{HasEnded, IsAway}
pub use Rattle.schedule_reading.specs.Closing.{AllowsWithin, HasProceeded, HasRested, IsPut, MayClose, RulesWithin, WithinSomehow, closed}
pub use Rattle.schedule_reading.specs.Ending.{RulesCause, RulesCut, RulesStop, RulesTrap}
pub use Rattle.schedule_reading.specs.Kept.{Core, Kept}
pub use Rattle.schedule_reading.specs.Rulings.{Allows, Refuses, Rules, StandsBetweenSomehow}
pub use Rattle.schedule_reading.specs.Stands.{IsEnd, IsLooked, IsTold, IsTraceOf, Stands, StandsBy, StandsSomehow, StandsWithin}
pub use Rattle.schedule_reading.specs.declared.events.Happening.{Happening}
pub use Rattle.schedule_reading.specs.declared.reading.End.{End}
pub use Rattle.schedule_reading.specs.declared.reading.Next.{Next}
pub use Rattle.schedule_reading.specs.declared.reading.Under.{Under}
pub use Rattle.schedule_reading.specs.declared.rulings.Failure.{Failure}
pub use Rattle.schedule_reading.specs.declared.rulings.Ruling.{Ruling}
pub use Rattle.schedule_audit.specs.Judging.{IsJudged, IsLine, IsNoEnd, IsReadTo, RulesLine}
