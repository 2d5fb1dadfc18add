-- The names that this crate's proofs cite from other crates and from its definitions, passed on from one place. Declares nothing.
pub use Rattle.std.proofs.Common.{[], ◌%◌, ◌*◌, ◌++◌, ◌+◌, ◌-ℤ◌, ◌-◌, ◌/◌, ◌<◌, ◌^◌, ◌∙◌, ◌∷◌, ◌≡◌, ◌≢◌, ◌≤◌, All, Contains, Err, List, None, Ok, Option, Result, Some, ap, arith, cond, eqb, false, get_or, inl, inr, length, map, pos, refl, replicate, set, subst, suc, sym, take, true, zero, ℕ, ⊎_elim}
pub use Rattle.accepted_pairs.proofs.CodeListLemmas.{as_many}
pub use Rattle.certificate_rules.proofs.ValidLemmas.{same_words}
pub use Rattle.machine_meaning.proofs.Picks.{kept_pool}
pub use Rattle.segment_laws.proofs.FrameWords.{stack_frame}
pub use Rattle.segment_laws.proofs.Moves.{Leads-comes}
pub use Rattle.segment_laws.proofs.Unlinking.{rest_is}
pub use Rattle.std.proofs.lemmas.Bool.{and_left, cases_eq, cases_lt, cond-false, cond-true, eq-eqb, eqb-false, eqb-true, le-leb, le-ltb, lt-leb, lt-ltb, ltb-true, ne_eqb}
pub use Rattle.std.proofs.lemmas.List.{append-nil, append_assoc, get_or-drop, get_or-map, get_or_default, length-drop, length-map, length-replicate, length-set, length-take, take_all, take_more_set}
pub use Rattle.std.proofs.lemmas.List.Concat.{length-flat_map}
pub use Rattle.std.proofs.lemmas.List.Elements.{All-cons, All-from_recursion, All-head, All-tail}
pub use Rattle.std.proofs.lemmas.List.Sums.{sum_by-cons}
pub use Rattle.std.proofs.lemmas.Option.{slice_get-get_or, slice_get_within}
pub use Rattle.std.specs.List.{AllByRecursion}
unfoldable pub use Rattle.std.specs.List.{IsDistinct}
pub use Rattle.std.specs.Prelude.{Bool, IfSome, IsNone, if◌then◌else◌, nat_eq, nat_le, nat_lt, option_map, slice_get, slice_index, slice_set, sum, sum_by, ◌&&◌, ◌==◌, ◌↔◌}
pub use Rattle.accepted_pairs.specs.Accepting.{accepted_tree}
pub use Rattle.accepted_pairs.specs.CodeLists.{StandsIn}
pub use Rattle.accepted_pairs.specs.declared.accepted.Accepted.{Accepted}
pub use Rattle.c_lower.specs.ProgramCode.{lowered, lowered_function}
pub use Rattle.c_tree.specs.Trees.{ProgramTree}
pub use Rattle.c_tree.specs.WellScoped.{IsWellScoped}
pub use Rattle.cap_word.specs.Runs.{Asks, Goes, Stops, moves}
pub use Rattle.cap_word.specs.declared.faults.FaultKind.{FaultKind}
pub use Rattle.certificate_rules.specs.Rules.{member_entries, starting_words}
pub use Rattle.certificate_rules.specs.Validity.{IsValid}
pub use Rattle.chunk_pool.proofs.AddressLaws.{chunk_at-some, chunk_in-below, place_of-aligned}
pub use Rattle.chunk_pool.proofs.NeedLaws.{taken_for-count, taken_for-fits, taken_for-keeps, taken_for-shape, taken_for-sound}
pub use Rattle.chunk_pool.proofs.PoolLaws.{Contains-cases, KeepsOthers-after_give, count-most}
pub use Rattle.chunk_pool.proofs.ShapeLaws.{IsChunk-chunk_of, chunk_at-same, first_bytes-same, payload_place_of-same, words_of-payload}
pub use Rattle.chunk_pool.specs.Pool.{HasAddress, IsFree, IsHeld, IsPool, IsTaken, Pool, Taken, after_give, all_free, bytes_of, chunk_at, chunk_of, end_of, first_bytes, first_place, payload_of, payload_place_of, place_of, shape_of, taken_for, word_of, words_of}
pub use Rattle.decoded_code.specs.Ready.{AreReady, DoesAs, IsReadyAt, branches_to, done_as, even, place_at, ready_effect, second, third}
unfoldable pub use Rattle.decoded_code.specs.Ready.{done}
pub use Rattle.decoded_code.specs.declared.ready.Kind.{Kind}
pub use Rattle.decoded_code.specs.declared.ready.Ready.{Ready}
pub use Rattle.flat_code.specs.Codes.{FlatCode, function_at, operation_at, result_place, site_of}
pub use Rattle.flat_code.specs.Frames.{site_in}
pub use Rattle.flat_code.specs.WellFormed.{IsWellFormed, signature_of}
pub use Rattle.flat_code.specs.declared.functions.FlatFunction.{FlatFunction}
pub use Rattle.flat_code.specs.declared.operations.Op.{Op}
pub use Rattle.flat_code.specs.declared.programs.FlatGlobal.{FlatGlobal}
pub use Rattle.machine_meaning.proofs.Formed.{entries, follows, formed}
pub use Rattle.machine_meaning.proofs.Zeroes.{program_zeroes}
pub use Rattle.machine_meaning.specs.AsSource.{AsksCall, HoldsResult, HoldsWanted, IsStepAsSource, RunsAsSource, WaitsAsSource}
pub use Rattle.machine_world.proofs.AreaLaws.{IsMemory-areas, IsPool-with_byte, IsSpot, IsSpot-spot_of, byte_at-with_byte, spot_of-with_byte}
pub use Rattle.machine_world.proofs.FormLaws.{KeepsForm, KeepsForm-step, bytes_on, word-below}
pub use Rattle.machine_world.proofs.HeldLaws.{KeepsCopies-step, KeepsShape-step, copies-cons}
pub use Rattle.machine_world.specs.Areas.{Areas, InGlobals, InPayload, InTables, Spot, byte_at, byte_on, globals_place, is_within, is_writable, is_writable_on, payload_spot, tables_place, with_byte, with_byte_on}
unfoldable pub use Rattle.machine_world.specs.Areas.{spot_of}
pub use Rattle.machine_world.specs.Globals.{AreGlobals}
pub use Rattle.machine_world.specs.Held.{KeepsCopies, KeepsShape, copies}
pub use Rattle.machine_world.specs.InPlace.{Frame, FramesAt, HasFrames, HeadersName, IsAbove, IsRunning, ReturnsInto, TpIsFront, chain_below, frame_bytes, joined, low_below, return_word, words_through_call}
pub use Rattle.machine_world.specs.Keys.{key_of, sites_of, standing, with_site}
pub use Rattle.machine_world.specs.Local.{Calls, Core, Ended, Local, LocalMove, NoRoom, Starts, Wrong, begins_at, chunk_with_payload, ended, linked, linked_on, local_machine, local_move, machine_of, passed, saved_sp, saved_tp, system_call, unlinked, unlinked_on, with_header}
unfoldable pub use Rattle.machine_world.specs.Local.{local_step}
pub use Rattle.machine_world.specs.Places.{Checked, InOperation, IsAt, Place, Row, Whole, before_transfer, row_at, size_in, through_call}
pub use Rattle.machine_world.specs.Rests.{AtCall, AtStart, IsAtCall, IsPastCall, IsResting, PastCall, ecall_word}
pub use Rattle.machine_world.specs.StandsFor.{HoldsIndex, SourceThread, StandAtCall, StandsFor, StandsForThread, Waits, going_on}
pub use Rattle.machine_world.specs.WellFormed.{AreWellFormed, AreWords, IsCore}
pub use Rattle.rv_code.specs.Decoding.{decoding}
pub use Rattle.rv_code.specs.declared.instructions.Instr.{Instr}
pub use Rattle.rv_machine.specs.Bytes.{Byte, Half, Nothing, Stored, Word, with_stored, word_at, word_is_writable}
unfoldable pub use Rattle.rv_machine.specs.Bytes.{with_half, with_word}
pub use Rattle.rv_machine.specs.Registers.{read, write}
pub use Rattle.rv_machine.specs.Rows.{Machine, Outcome, found, next, stores}
unfoldable pub use Rattle.rv_machine.specs.Rows.{jumps, loads, passes, sets, word_loaded, word_stored}
pub use Rattle.rv_machine.specs.Step.{answer, code_word, decoded, fetched, memory_after, regs_after}
unfoldable pub use Rattle.rv_machine.specs.Step.{instruction_at, outcome, started}
pub use Rattle.rv_machine.specs.WordBytes.{word_with}
pub use Rattle.rv_machine.specs.Words.{TellsWords}
pub use Rattle.rv_machine.specs.declared.registers.Regs.{Regs}
pub use Rattle.segment_laws.proofs.FromRest.{ask_shape, some_at}
pub use Rattle.segment_laws.proofs.OnePlace.{one_place}
pub use Rattle.segment_laws.proofs.Past.{function_of_op, row_first, size_some}
pub use Rattle.segment_laws.proofs.Spots.{Fit, inside, outside}
pub use Rattle.segment_laws.proofs.Stacks.{copies-front, word_of-other}
pub use Rattle.segment_laws.proofs.ValidFacts.{CodeFacts-valid}
pub use Rattle.segment_laws.specs.Alike.{FollowsAsks}
pub use Rattle.segment_laws.specs.Facts.{CodeFacts}
pub use Rattle.segment_laws.specs.Ways.{HasForm, IsGoodState, Owns, WayIn}
pub use Rattle.stack_certificate.specs.Certificates.{fact_at, need_of}
pub use Rattle.stack_certificate.specs.Registers.{a0, a1, a2, sp, t1, tp}
pub use Rattle.stack_certificate.specs.Templates.{begin, kind_of, result_size, row, setting, size, size_at, transfer_size, words_before}
pub use Rattle.stack_certificate.specs.declared.certificates.Certificate.{Certificate}
pub use Rattle.stack_certificate.specs.declared.functions.FunctionFact.{FunctionFact}
pub use Rattle.stack_image.specs.Addresses.{code_start}
pub use Rattle.stack_image.specs.declared.images.Image.{Image}
pub use Rattle.segment_run.specs.Contexts.{AreOf, IsOwned, IsReady, chain_from, checked_of, chunk_below, code_of, core_of, local_of}
pub use Rattle.segment_run.specs.Kept.{AreKept, areas_of}
pub use Rattle.segment_run.specs.Lookups.{HasEntry}
pub use Rattle.segment_run.specs.Passing.{IsBefore, RestsAround, RestsBefore, RestsBehind, WaitsBefore, WaitsBehind}
pub use Rattle.segment_run.specs.ReadyRuns.{IsIn, Run}
pub use Rattle.segment_run.specs.ReadyTurns.{GoesOn, IsKindAt, IsReadyIn, WentOn, machine_at}
pub use Rattle.segment_run.specs.Safe.{AsksAt, IsSafe, IsSafeMove, StaysSafe}
pub use Rattle.segment_run.specs.Segments.{IsAtAsk, IsAtSpawn, IsEnd, IsSegment, KeepsChunks}
pub use Rattle.segment_run.specs.Spots.{IsOn, with_word_on, word_on, world_spot}
pub use Rattle.segment_run.specs.Starting.{IsStarted, first_arguments}
pub use Rattle.segment_run.specs.Turns.{IsAtEcall, IsUnderWay, KeepsCounts, thread_of}
pub use Rattle.segment_run.specs.Walking.{AreWalked, IsAroundCall, IsInCall, IsReadOf, IsWalked}
pub use Rattle.segment_run.specs.declared.contexts.Context.{Context}
pub use Rattle.segment_run.specs.declared.running.Thread.{Thread}
pub use Rattle.segment_run.specs.declared.segments.Segment.{Segment}
