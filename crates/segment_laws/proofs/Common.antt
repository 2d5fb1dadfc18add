-- The names that this crate's proofs cite from other crates and from its definitions, passed on from one place. Declares nothing.
pub use Rattle.std.proofs.Common.{[], ◌%◌, ◌*◌, ◌++◌, ◌+◌, ◌-ℤ◌, ◌-◌, ◌/◌, ◌<◌, ◌^◌, ◌∙◌, ◌∷◌, ◌≡◌, ◌≢◌, ◌≤◌, Bool, Err, List, None, Ok, Option, Result, Some, ap, append_assoc, arith, cond, false, get_or, get_or-set_other, get_or-set_same, inl, inr, length, lit<, ltb, map, negsuc, not, pos, refl, replicate, set, subst, suc, sym, take, true, zero, ℕ, ℤ, ⊎_elim}
pub use Rattle.machine_world.proofs.LinkLaws.{read-write_same, saved_tp-with_header}
pub use Rattle.stack_certificate.proofs.SizeLemmas.{length-arguments, length-transfer}
pub use Rattle.std.proofs.lemmas.Bool.{and_from, and_right, cases_eq, cases_lt, cond-false, cond-true, cond_both, eq-eqb, eqb-true, false≢true, le-leb, le-ltb, leb-true, lt-leb, lt-ltb, ne_eqb}
pub use Rattle.std.proofs.lemmas.Int.{int_rem_euclid_is, ints}
pub use Rattle.std.proofs.lemmas.List.{get_or-append_right, get_or-map, get_or_default, get_or_past, length-append, length-map, length-replicate, length-set, set-append_left, set-append_right, set-get_or, set-set}
pub use Rattle.std.proofs.lemmas.List.Concat.{get_or-flat_map, length-flat_map}
pub use Rattle.std.proofs.lemmas.List.Elements.{All-from_recursion}
pub use Rattle.std.proofs.lemmas.List.Sums.{get_or-le-sum_by, sum-map, sum_by-cons, sum_by_more_le}
pub use Rattle.std.proofs.lemmas.Option.{slice_get_within}
pub use Rattle.std.specs.List.{AllByRecursion, flat_map}
pub use Rattle.std.specs.Prelude.{Contains, IfSome, IsTrue, bit_and, bit_or, bit_xor, int_le, int_lt, nat_eq, nat_le, nat_lt, slice_get, slice_index, slice_index_or, sum, sum_by, unsigned_abs, ◌&&◌, ◌==◌, ◌||◌, ◌⊎◌}
pub use Rattle.cap_word.proofs.RunLemmas.{goes_on}
pub use Rattle.cap_word.specs.Calls.{Blocking, Call, Finish, Immediate, Question, call_of, call_with, spawn_of}
pub use Rattle.cap_word.specs.Rows.{width, with_word, word_at}
pub use Rattle.cap_word.specs.Runs.{Asks, Goes, Move, Stops, and_then, moves}
pub use Rattle.cap_word.specs.Signatures.{IsMember, IsTable, Signature, signature_at}
pub use Rattle.cap_word.specs.Word.{signed}
unfoldable pub use Rattle.cap_word.specs.Word.{add, flag, sub, word_of}
pub use Rattle.cap_word.specs.declared.faults.FaultKind.{FaultKind}
pub use Rattle.cap_word.specs.declared.faults.FaultKind.TheVariants.{Misaligned}
pub use Rattle.cap_word.specs.declared.traps.TrapKind.{TrapKind}
pub use Rattle.certificate_rules.specs.Ranges.{AreApart, Stands}
pub use Rattle.certificate_rules.specs.Rules.{IsNeed, IsPlaced, frame_places, frame_words}
pub use Rattle.certificate_rules.specs.Sites.{callee_bound, certified_site, greatest_bound, is_spawned, starts_thread}
pub use Rattle.certificate_rules.specs.Validity.{IsValid}
pub use Rattle.chunk_pool.proofs.AddressLaws.{chunk_at-some, place_of-aligned, place_of-bounded}
pub use Rattle.chunk_pool.proofs.NeedLaws.{taken_for-count, taken_for-fits, taken_for-keeps, taken_for-leaves, taken_for-shape, taken_for-sound}
pub use Rattle.chunk_pool.proofs.PoolLaws.{Contains-cases, KeepsOthers-after_give, KeepsOthers-with_word, word_of-with_word_other, word_of-with_word_same}
pub use Rattle.chunk_pool.proofs.ShapeLaws.{IsChunk-chunk_of, bytes_of-aligned, count-same, end_of-same, payload_place_of-same, place_of-same, words_of-payload, words_of-same}
pub use Rattle.chunk_pool.specs.Pool.{IsFree, IsPool, Pool, Taken, after_give, all_free, chunk_at, chunk_of, end_of, payload_bytes_of, payload_place_of, place_of, shape_of, taken_for, words_of}
pub use Rattle.flat_code.specs.Codes.{FlatCode, function_at, members_of, operation_at, result_place}
pub use Rattle.flat_code.specs.Frames.{Finished, FlatFrame, FlatThread, FlatWaiting, Lost, at, passed, pushed, set_to, standing, variable, with_result, with_scalar}
pub use Rattle.flat_code.specs.Operators.{result_of}
pub use Rattle.flat_code.specs.Step.{FlatMove, answered, asks, both, does, enters, enters_by, first, flat_machine, flat_step, goes_with, jumps, on, place_in, puts, returns, scalar, scalars, trapped, where_in, within}
pub use Rattle.flat_code.specs.WellFormed.{Context, IsFunction, IsOperation, IsResultPlace, IsScalar, IsWellFormed, context_of, signature_of}
pub use Rattle.flat_code.specs.declared.functions.FlatFunction.{FlatFunction}
pub use Rattle.flat_code.specs.declared.operations.Op.{Op}
pub use Rattle.flat_code.specs.declared.operators.BinOp.{BinOp}
pub use Rattle.flat_code.specs.declared.programs.FlatGlobal.{FlatGlobal}
pub use Rattle.machine_world.proofs.AloneLaws.{KeepsChunk-step, chunk_of-with_header}
pub use Rattle.machine_world.proofs.FormLaws.{AreAddresses-taken, AreWellFormed-taken, IsCore-passed, KeepsForm, KeepsForm-step, word-below}
pub use Rattle.machine_world.proofs.HeldLaws.{KeepsCopies-step, KeepsShape-step, copies-cons}
pub use Rattle.machine_world.specs.Areas.{Areas, InGlobals, InPayload, InTables, Spot, byte_at, byte_on, globals_place, is_within, is_writable, is_writable_on, payload_spot, tables_place, with_byte, with_byte_on}
unfoldable pub use Rattle.machine_world.specs.Areas.{spot_of}
pub use Rattle.machine_world.specs.Counted.{IsCounted}
pub use Rattle.machine_world.specs.Globals.{AreGlobals, global_widths}
pub use Rattle.machine_world.specs.Held.{KeepsCopies, KeepsShape, copies, copies_in}
pub use Rattle.machine_world.specs.InPlace.{Calls, Frame, FramesAt, HasFrames, HeadersName, IsAbove, IsFrame, IsFramed, IsGoodAccess, IsInGlobal, IsInTable, IsRunning, IsStack, ReturnsInto, TpIsFront, chain_below, frame_bytes, joined, low_below, return_word, word_in, words_through_call}
pub use Rattle.machine_world.specs.Local.{Core, Ended, Local, LocalMove, NoRoom, Trapped, Wrong, access_at, after_call, begins_at, chunk_with_payload, ended, linked, linked_on, local_machine, local_move, machine_of, saved_sp, saved_tp, system_call, unlinked, unlinked_front, unlinked_on, with_header}
unfoldable pub use Rattle.machine_world.specs.Local.{local_step}
pub use Rattle.machine_world.specs.Places.{Checked, Empty, Fresh, InOperation, InPrologue, InStub, IsAt, Linking, NoFrame, Place, Row, Whole, before_transfer, function_of, is_linking, operation_of, row_at, row_in, row_of, size_in, through_call, transfer_row}
pub use Rattle.machine_world.specs.Rests.{AreFlatAtStart, AreFlatFrames, AreFlatPast, AtCall, AtStart, HoldArguments, HoldsCall, HoldsCallIn, HoldsVariables, IsAtCall, IsFlatStart, IsPastCall, IsResting, IsShaped, PastCall, StandsForFlat, ecall_word, variable_word}
pub use Rattle.machine_world.specs.StandsFor.{AreWaitingFrames, HoldsIndex, IsWaitingFrame, SourceThread, StandAtCall, StandAtStart, StandsFor, StandsForFlatThread, Starts, Waits}
pub use Rattle.machine_world.specs.Threads.{Thread, World, first_with, local_in, replaced, start_registers, thread_of, without}
pub use Rattle.machine_world.specs.WellFormed.{AreWellFormed, AreWords, member_entries}
pub use Rattle.rv_code.specs.declared.instructions.Instr.{Instr}
pub use Rattle.rv_machine.proofs.WordLaws.{read-below}
pub use Rattle.rv_machine.specs.Access.{Access, IsAccessed, access_of}
unfoldable pub use Rattle.rv_machine.specs.Access.{accessed, next_access}
pub use Rattle.rv_machine.specs.Bytes.{Nothing}
pub use Rattle.rv_machine.specs.Effect.{upper}
unfoldable pub use Rattle.rv_machine.specs.Effect.{effect}
pub use Rattle.rv_machine.specs.Registers.{read, write}
pub use Rattle.rv_machine.specs.Rows.{branches, found, stores}
unfoldable pub use Rattle.rv_machine.specs.Rows.{loads, sets, word_loaded, word_stored}
pub use Rattle.rv_machine.specs.Step.{code_word, decoded, fetched}
unfoldable pub use Rattle.rv_machine.specs.Step.{instruction_at, outcome, started}
pub use Rattle.stack_certificate.proofs.AddressLemmas.{words_step}
pub use Rattle.stack_certificate.specs.Certificates.{fact_at, global_address, global_words, member_count, need_of, table_address}
pub use Rattle.stack_certificate.specs.Parts.{arguments, call_instruction, guard, li, load, lower_part, result, saves, store, transfer, upper_part, zeroes}
pub use Rattle.stack_certificate.specs.Registers.{a0, ra, sp, tp}
pub use Rattle.stack_certificate.specs.Templates.{begin, kind_of, prologue, result_size, row, setting, size, size_at, transfer_size, words_before}
pub use Rattle.stack_certificate.specs.declared.certificates.Certificate.{Certificate}
pub use Rattle.stack_certificate.specs.declared.functions.FunctionFact.{FunctionFact}
pub use Rattle.stack_certificate.specs.declared.settings.Setting.{Setting}
pub use Rattle.stack_certificate.specs.declared.sites.LinkKind.{LinkKind}
pub use Rattle.stack_image.specs.declared.images.Image.{Image}
pub use Rattle.segment_laws.specs.Alike.{AsksTheSame, Comes, FindsNoChunk, FindsNone, FollowsAsks, IsAlong, IsCutMove, IsCutOff, IsNeverLost, IsStepAlike, MayRun, ReachesAlike, RunsAlike, StopsAlike, WaitsAlike, first_of, last_flat, last_function, running_on}
pub use Rattle.segment_laws.specs.Around.{IsPassed, RestsAtStart, RestsBehind, new_thread}
pub use Rattle.segment_laws.specs.Asking.{Arrives, AtAsk}
pub use Rattle.segment_laws.specs.Calls.{CallFacts, CallsAlike, EndsAlike, Enters, EntryFacts, FindsNoRoom}
pub use Rattle.segment_laws.specs.Facts.{CodeFacts, FrameFacts, IsOperationAt}
pub use Rattle.segment_laws.specs.Found.{IsNumbered, IsOfRecord, KeepsRecords, at_place, find_from, threads_from, threads_in, with_found}
pub use Rattle.segment_laws.specs.Kept.{KeepsChunks, KeepsStack, RestsOn}
pub use Rattle.segment_laws.specs.Ways.{HasForm, Leads, WayIn}
pub use Rattle.segment_laws.specs.Zeroes.{ZeroesSome}
