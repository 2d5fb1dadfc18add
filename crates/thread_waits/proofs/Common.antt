-- The names that this crate's proofs cite from other crates and from its definitions, passed on from one place. Declares nothing.
pub use Rattle.std.proofs.Common.{[], ◌%◌, ◌&&◌, ◌*◌, ◌++◌, ◌+◌, ◌-◌, ◌/◌, ◌<◌, ◌==◌, ◌^◌, ◌||◌, ◌∙◌, ◌∷◌, ◌≡◌, ◌≢◌, ◌≤◌, ◌⊎◌, All, Bool, Contains, List, None, Option, Some, ap, append_assoc, arith, bit_or, cond, count_by, false, inl, inr, length, map, min, nat_eq, nat_le, nat_lt, not, refl, replicate, slice_index, slice_index_or, slice_set, subst, suc, sym, take, true, w64, zero, ℕ}
pub use Rattle.ready_tree.proofs.NeedLaws.{or_swap}
pub use Rattle.ready_tree.proofs.NodeLaws.{same_or_not}
pub use Rattle.std.proofs.lemmas.Bool.{cases_lt, or_parts}
pub use Rattle.std.proofs.lemmas.Bool.Decides.{nat_tests}
pub use Rattle.std.proofs.lemmas.List.{get_or-drop, get_or-map, get_or-replicate, get_or-set_other, get_or-set_same, get_or_past, get_or_read_under, length-drop, length-map, length-set, length-take, set-append_right}
pub use Rattle.std.proofs.lemmas.List.Elements.{All-cons, All-from_get_or, All-get_or, Contains-get_or}
pub use Rattle.std.proofs.lemmas.List.Folds.{list_any-from_Any, list_any_none}
pub use Rattle.std.proofs.lemmas.List.Sums.{get_or-le-sum_by, sum_by-cons, sum_by-set}
pub use Rattle.std.proofs.lemmas.Nat.Bits.{and_pow, bit_at-zero, bit_at_set_other, bit_at_set_same}
pub use Rattle.std.specs.List.{list_any}
pub use borrow.Author.Count.{below_more}
pub use Rattle.c_mean.specs.ModelledCalls.{Exchange, cap_of, channel_of, holds_some, is_ready, ticks_of, use_of}
pub use Rattle.cap_word.specs.declared.calls.Block.{Block}
pub use Rattle.thread_waits.specs.Counted.{IsBetween, IsCounted, IsGrown, IsLeafOf, IsLeastBetween, IsTreeOf, amount_of, if_later, is_at, is_at_channel, is_ready_always, is_ready_anyway, later_wake, no_number, number_or, wake_of}
pub use Rattle.thread_waits.specs.Least.{IsLeast}
pub use Rattle.thread_waits.specs.Minima.{AreMinima, AreMinimaBut, IsNode, leaves_in}
pub use Rattle.thread_waits.specs.Telling.{HasPlace, IsLeastNumber, IsLeastOfFirst, is_at_message, is_taker, is_taking, is_unused, silent_wake}
pub use Rattle.thread_waits.specs.Waiting.{IsBlockInRange, IsWaitInRange, IsWaitInRangeIf, IsWake, Waiting, any_elsewhere_in, any_ready_in, is_at_accept, is_ready_for, is_ready_in, latest, sleeps_in}
pub use Rattle.thread_waits.specs.declared.waits.Wait.{Wait}
pub use Rattle.thread_waits.specs.declared.waits.Waits.TheInside.{Inside}
pub use mathlib.Core.Bool.{or-false, or-true}
