-- The names that this crate's proofs cite from other crates and from its definitions, passed on from one place. Declares nothing.
pub use Rattle.std.proofs.Common.{[], ◌*◌, ◌++◌, ◌+◌, ◌-◌, ◌<◌, ◌==◌, ◌^◌, ◌∙◌, ◌∷◌, ◌≡◌, ◌≤◌, Bool, FitsSigned, IfNone, IfSome, List, Ok, Option, Result, Some, ap, arith, codes, drop, false, get_or, length, length-append, length-drop, map, of_z, pos, refl, rules, subst, sym, take, to_z, ℕ}
pub use Rattle.std.proofs.ByRecursion.{All-drop}
pub use Rattle.std.proofs.lemmas.Int.{to_z-of_z}
pub use Rattle.std.proofs.lemmas.List.{drop-replicate, drop_at, flat_map_more, map_more, take_more, take_rest}
pub use Rattle.std.specs.Int.{w128, w32}
pub use Rattle.std.specs.List.{AllByRecursion, flat_map}
pub use Rattle.std.specs.Prelude.{None, replicate, ℤ}
pub use Rattle.cap_text.proofs.DecimalLaws.{decimal_unique, integer_unique, passed_integer_is}
pub use Rattle.cap_text.proofs.PieceLaws.{Visible, all_lack, from_shown, lacks-append, lacks_after_each, lacks_decimal, pieces_joined, text_of_pieces, visible-append, visible_decimal, visible_integer, visible_lacks}
pub use Rattle.cap_text.specs.Decimals.{canonical_decimal}
unfoldable pub use Rattle.cap_text.specs.Decimals.{canonical_integer}
pub use Rattle.cap_text.specs.Pieces.{Lacks, after_each, pieces}
pub use Rattle.cap_word.specs.declared.stops.Stop.TheVariants.{Fuel, NoChunk, Threads, Trap}
pub use Rattle.cap_word.specs.declared.traps.TrapKind.{TrapKind}
pub use Rattle.cap_word.specs.declared.traps.TrapKind.TheVariants.{Channel, Index, Resource, Table}
pub use Rattle.schedule_log.specs.EntryRanges.{FitsAverages, FitsEntry, FitsKey, IsLogLine}
pub use Rattle.schedule_log.specs.EntryText.{after_blanks, entry_fields, entry_word, item_fields, key_field, more_sites, stop_fields, trap_field}
unfoldable pub use Rattle.schedule_log.specs.EntryText.{entry_text, log_text}
pub use Rattle.schedule_log.specs.Writing.{LogState, WriterState, Writes, log_state}
pub use Rattle.schedule_log.specs.declared.entries.Entry.{Entry}
pub use Rattle.schedule_log.specs.declared.entries.Entry.TheVariants.{Block, Dropped, Edge, End, Event, Out, Run, Stop}
pub use Rattle.schedule_log.specs.declared.entries.Item.{Item}
pub use Rattle.schedule_log.specs.declared.entries.Item.TheVariants.{Arrive, Data}
pub use Rattle.schedule_log.specs.declared.entries.StopLine.{StopLine}
pub use Rattle.schedule_log.specs.declared.entries.StopLine.TheVariants.{Cut, Done, Idle, Trace}
