-- The names that this crate's proofs cite from other crates and from its definitions, passed on from one place. Declares nothing.
pub use Rattle.std.proofs.Common.{[], ◌%◌, ◌*◌, ◌++◌, ◌+◌, ◌-◌, ◌/◌, ◌<◌, ◌^◌, ◌∙◌, ◌∷◌, ◌≡◌, ◌≢◌, ◌≤◌, ◌⊎◌, All, Bool, Contains, Err, IfNone, IfSome, List, None, Ok, Option, Some, ap, arith, cond, count_by, false, get_or, inl, inr, length, length-drop, length-take, lit<, map, nat_eq, nat_lt, refl, replicate, set, subst, suc, sym, take, true, w64, zero, ℕ}
pub use Rattle.std.proofs.lemmas.Bool.{and_from, and_parts, cases_Bool, cases_eq, cases_lt, eq-eqb, eqb-false, eqb-true, false≢true, le-leb, le-ltb, leb-false, leb-true, lt-ltb, ltb-true, ne_eqb}
pub use Rattle.std.proofs.lemmas.List.{drop-replicate, drop-set-add, drop-set-lt, drop-take, get_or-drop, get_or-map, get_or-set_other, get_or-set_same, get_or-take, get_or_default, length-append, length-map, length-replicate, length-set, same_lists, set_past, take-replicate, take-set-le}
pub use Rattle.std.proofs.lemmas.List.Elements.{All-append, All-cons, All-contains, All-drop, All-from_recursion, All-head, All-replicate, All-set, All-tail, Contains-append_cases, Contains-append_left, Contains-append_right}
pub use Rattle.std.proofs.lemmas.List.FromFn.{get_or-map-range_with_len, get_or-range_with_len, length-map-range_with_len, length-range_with_len}
pub use Rattle.std.proofs.lemmas.Map.Views.{Contains-from_any, list_any-from_Contains}
pub use Rattle.std.proofs.lemmas.Nat.{div-add-mod', div-mul-add, div_below, mod-mul-add, mod_below, mul-add-lt, row_fits}
pub use Rattle.std.proofs.raw_atomic.Walks.{leaves, proved_at}
pub use Rattle.std.specs.List.{AllByRecursion, range_with_len}
unfoldable pub use Rattle.std.specs.List.{IsDistinct}
pub use Rattle.std.specs.Prelude.{is_some, ◌↔◌}
pub use base.Fml.{Fml, Lft, Share, fat, ffalse, flft, froom, ftrue}
pub use base.Fraction.{full_share}
pub use base.Logic.{SProp, emp, ent, id⊢, mono_r, never, sep, snd∗, via}
pub use contract.BorrowLft.{⊑_trans, ◌⊑◌}
pub use contract.Monad.{fact, fact_i}
pub use contract.Running.{tables}
pub use denote.Builtin.{RefOf, u32, usize}
pub use denote.Exit.{yes}
pub use denote.Index.{row}
pub use denote.Memory.{part_at, shared_of, shares}
pub use denote.Param.{bounded, layout, param}
pub use denote.Plain.{uint_in, uint_out, uint_row_laws}
pub use denote.RattleType.{RattleType, Valss, owns}
pub use denote.RawPtr.{Ptr, RawPtr, block_ptr, in_a_block, null_ptr, ptr_val}
pub use denote.SharingLaws.{beside_shr_laws, nothing_shr_laws, said_shr_laws}
pub use denote.Signature.{plain, type_at, types_at}
pub use denote.Slice.{elements_shared, elements_shr_laws, slice_val}
pub use denote.Steps.{closes, heard, nothing, opens, owned}
pub use denote.Struct.Lending.{Lends, Lends-both, Lends-false, Lends-first, Lends-nothing, Lends-said, of_Lends}
pub use denote.Struct.Struct.{Struct, Struct-Makes, within}
pub use denote.Struct.Tuple.{Tuple, tuple_type}
pub use denote.Triple.Call.{calls_at, calls_at_last}
pub use denote.Triple.Entry.{alive}
pub use denote.Triple.Walked.{Goes-dropped, Goes-ref, Stays, ends_at, says, stay_dropped, stay_ref, walk_of}
pub use mir.MapTy.{inst_fn}
pub use mir.Syntax.{Args, Fn, Sym, Ty, a_type, dcons, dnil, tcons, tnil, ty_int, ty_ptr, ty_struct, ty_unit, w32}
pub use mir.Val.{Val, WT, has_ty, of_list, vcons, vint, vnil, vptr, vstruct, vunit}
pub use prog.Capped.{capped_is}
pub use prog.Wp.{Env, Wp, WpFn, after_seq, at_return}
pub use seplogic.Ra.Ura.{Ura}
pub use types.ByLocal.{alloc_all, env, free_all, get, get_in, get_tag, give_at, lands_as, lands_last, look_at, pass_all, sets, sets_last, take_at, through}
pub use types.Kit.{at_ret, !, await, by, done, drop, feq_i, fjoin, fjoin3, flt_i, flt_l, fpack, frame, fsplit, fsplit3, given, group, join, keep, later, learn, move, prop, qed, raw, regoal, rewrite, split, suffices, use0, use1, use2, use3, ‵, ⋆, ◌$◌, ◌∵◌, ◌⊛◌}
pub use types.Logic.{Logic, sem}
pub use types.Part.{agg, sub, whole}
pub use types.Run.{and_then, assigns_last, bin, blocks, enter, exec, first, fld, init, lit, no_more, of_opd, returns, stop, store, switches_on, unit_lit}
pub use Rattle.core.proofs.alloc.Calls.{Al, Answer-typed, Answered, Gives, Gives-Gives, Gives-goes, Goes-blank, Takes, Takes-gives, Takes-goes, answers, at_gives, at_takes, seen}
pub use Rattle.core.proofs.alloc.Shapes.{after, arm_body, head}
pub use Rattle.core.proofs.atomic.Steps.{fm}
pub use Rattle.core.proofs.cell.Inside.{Good}
pub use Rattle.chunk_pool.specs.Block.{fit, words_lent, words_own, words_type}
pub use Rattle.chunk_pool.specs.Chunks.{IsKept, chunks_in, followed, pool_of}
pub use Rattle.chunk_pool.specs.Pool.{FitsNone, HasAddress, IsChunk, IsFree, IsFreeList, IsHeld, IsLinked, IsPool, IsShape, IsTaken, KeepsOthers, Pool, Taken, after_give, all_free, bytes_of, choice, chunk_at, chunk_of, class_for, contents_with, end_of, first_bytes, first_end, first_or, first_place, first_size, fits, free_beside, free_count, last_end, next_in, offers, payload_of, payload_place_of, place_of, shape_of, size_in, start_chunk, start_of, start_pool, start_shape, taken_of, with_free_of, with_word, word_of, words_of}
unfoldable pub use Rattle.chunk_pool.specs.Pool.{chunk_in, first_bytes_in, start_in, taken_for, words_in}
pub use Rattle.chunk_pool.specs.declared.shape.Shape.{Shape}
