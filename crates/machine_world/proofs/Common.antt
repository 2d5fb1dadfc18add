-- The names that this crate's proofs cite from other crates and from its definitions, passed on from one place. Declares nothing.
pub use Rattle.rv_machine.proofs.WordLaws.{length-write}
pub use Rattle.std.proofs.Common.{[], ◌%◌, ◌*◌, ◌++◌, ◌+◌, ◌-◌, ◌/◌, ◌<◌, ◌^◌, ◌∙◌, ◌∷◌, ◌≡◌, ◌≢◌, ◌≤◌, Bool, List, None, Option, Some, ap, arith, cond, drop, eqb, false, get_or, get_or-set_other, get_or-set_same, inl, inr, length, lit<, lit≤, ltb, nat_eq, not, refl, replicate, set, slice_get, subst, suc, sym, true, zero, ℕ, ⊎_elim}
pub use Rattle.std.proofs.lemmas.Bool.{and_parts, cases_eq, cases_lt, cond-false, cond-true, cond_both, eq-eqb, eqb-false, eqb-true, le-ltb, leb-true, lt-ltb, ltb-true, ne_eqb}
pub use Rattle.std.proofs.lemmas.List.{drop-set-lt, get_or_past, length-set, set_past}
pub use Rattle.std.proofs.lemmas.List.Elements.{All-append, All-drop, All-from_recursion, All-get_or, All-replicate, All-set}
pub use Rattle.std.specs.List.{AllByRecursion, range_with_len}
pub use Rattle.std.specs.Prelude.{IfSome, if◌then◌else◌, nat_le, nat_lt, ◌&&◌}
pub use Rattle.c_mean.specs.Kept.{LeavesOtherQueues}
pub use Rattle.c_mean.specs.ModelledCalls.{Arrival, Delivery, Exchange, ImmediateRow, Message, blocking_row, channel_of, holds_some, immediate_row, is_dropped, with_delivery}
pub use Rattle.cap_word.specs.Calls.{Blocking, Call, Immediate, most_threads}
unfoldable pub use Rattle.cap_word.specs.Word.{add, flag, signed, slt, sub, word_of}
pub use Rattle.cap_word.specs.declared.calls.Ask.{Ask}
pub use Rattle.cap_word.specs.declared.calls.Block.{Block}
pub use Rattle.cap_word.specs.declared.traps.TrapKind.{TrapKind}
pub use Rattle.chunk_pool.proofs.AddressLaws.{HasAddress-from_chunk_at, chunk_at-some, place_of-bounded}
pub use Rattle.chunk_pool.proofs.NeedLaws.{taken_for-keeps, taken_for-leaves, taken_for-shape, taken_for-sound}
pub use Rattle.chunk_pool.proofs.PoolLaws.{IsPool-after_give, IsPool-with_word, KeepsOthers-after_give, KeepsOthers-with_word, payload_of-after_give, word_of-with_word_other, word_of-with_word_same}
pub use Rattle.chunk_pool.proofs.ShapeLaws.{IsChunk-chunk_of, copies-after_give, first_bytes-same, words_of-payload}
pub use Rattle.chunk_pool.specs.Pool.{IsPool, Pool, Taken, after_give, all_free, chunk_of, end_of, payload_place_of, shape_of, start_pool}
unfoldable pub use Rattle.chunk_pool.specs.Pool.{chunk_in, start_in, taken_for, words_in}
unfoldable pub use Rattle.rv_code.specs.Decoding.{alternate, base, branch, decoding, fence, jump_register, load, multiply, shift, store, system, with_immediate, with_register}
pub use Rattle.rv_machine.proofs.WordBytes.{byte_in-other, byte_in-same, word_with-below}
pub use Rattle.rv_machine.specs.Bytes.{Byte, Half, Nothing, Stored, Word, with_stored}
unfoldable pub use Rattle.rv_machine.specs.Bytes.{half_at, half_is_writable, with_half, with_word, word_at, word_is_writable}
unfoldable pub use Rattle.rv_machine.specs.Effect.{effect}
pub use Rattle.rv_machine.specs.Registers.{read, write}
unfoldable pub use Rattle.rv_machine.specs.Rows.{branches, jumps, loads, passes, sets, word_loaded, word_stored}
pub use Rattle.rv_machine.specs.Step.{machine_after}
unfoldable pub use Rattle.rv_machine.specs.Step.{instruction_at, outcome, started}
pub use Rattle.stack_certificate.specs.Registers.{a0, a1, a2, sp, t1, tp}
pub use Rattle.machine_world.specs.Alone.{IsApart, KeepsChunk, KeepsThread}
pub use Rattle.machine_world.specs.Areas.{Areas, InGlobals, InPayload, InTables, Spot, byte_at, byte_on, globals_place, is_within, is_writable, is_writable_on, payload_spot, tables_place, with_byte, with_byte_on}
unfoldable pub use Rattle.machine_world.specs.Areas.{spot_of}
pub use Rattle.machine_world.specs.Chains.{AreAllFree, held_copies}
pub use Rattle.machine_world.specs.Counted.{IsCounted, IsCountedIf, KeepsCounted}
pub use Rattle.machine_world.specs.Descending.{at_entry, at_link, caller_frame, checked, entry_frame, main_frame}
pub use Rattle.machine_world.specs.Held.{KeepsCopies, KeepsShape, copies, copies_in}
pub use Rattle.machine_world.specs.InPlace.{Frame, FramesAt, HasFrames, IsFrame, IsStack, ReturnsInto, chain_below, joined, words_through_call}
pub use Rattle.machine_world.specs.Keys.{called_at_links, chunk_ahead, is_linked, standing, stands_at_link}
pub use Rattle.machine_world.specs.Local.{Calls, Core, Ended, Local, LocalMove, NoRoom, Starts, Trapped, Wrong, after_call, asks_or_wrong, begins_at, chunk_with_payload, ended, linked, linked_on, local_move, machine_of, package_call, passed, saved_sp, saved_tp, system_call, trapped, unlinked, unlinked_front, unlinked_on, with_header, with_result}
unfoldable pub use Rattle.machine_world.specs.Local.{local_step}
pub use Rattle.machine_world.specs.Numbered.{RiseBetween}
pub use Rattle.machine_world.specs.Places.{Checked, Empty, Fresh, InPrologue, Linking, NoFrame, Place, Row, Whole, before_transfer, row_of, through_call}
pub use Rattle.machine_world.specs.Runs.{Action, Advance, Deliver, Pick, Step, advanced, after_action, after_actions, after_steps, and_then, delivered, empty_world, is_between, may_run, picked, picked_at, started_on, world_of}
unfoldable pub use Rattle.machine_world.specs.Runs.{start_world}
pub use Rattle.machine_world.specs.Threads.{Blocked, Blocks, Ends, Goes, Move, Puts, Setting, Spawns, Thread, World, first_with, local_in, replaced, result_of, result_on, resumed, retired, start_core, start_registers, thread_of, with_thread, without}
unfoldable pub use Rattle.machine_world.specs.Threads.{step}
pub use Rattle.machine_world.specs.WellFormed.{AreWellFormed, AreWords, DeliversWords, IsCore, IsExchange, IsWellFormed, IsWellFormedIf, KeepsWellFormed, most_fuel}
