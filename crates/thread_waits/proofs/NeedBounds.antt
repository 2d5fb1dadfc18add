-- Needs are met where those who wait are ready.
use Rattle.thread_waits.proofs.Common.{◌≡◌, ◌≢◌, ℕ, ◌+◌, ◌-◌, ◌*◌, ◌<◌, ◌≤◌, ◌^◌, Bool, true, false, ◌&&◌, ◌==◌, not, cond, nat_le, nat_lt, bit_or, w64, zero, suc, Option, Some, None, All, List, [], ◌∷◌, length, refl, ◌∙◌, sym, ap, subst, arith, slice_index, slice_index_or, slice_set, below_more, length-set, get_or-set_same, get_or-set_other, ◌%◌, nat_tests, and_pow, bit_at_set_same, bit_at_set_other, All-get_or, Block, Exchange, cap_of, channel_of, holds_some, is_ready, use_of, IsBlockInRange, IsWaitInRange, IsWaitInRangeIf, is_ready_for, latest, Wait, or-false}
use Rattle.std.proofs.lemmas.Nat.{pow_pos}
use Rattle.std.specs.Int.{bit_at}
use lib.Bits.{and_zero_r}
use Rattle.ready_tree.specs.declared.bounds.Bounds.{Bounds}
use Rattle.ready_tree.specs.Needs.{is_met, is_shared}
use Rattle.thread_waits.specs.Needs.{need_of_block, need_for}

-- a bit that stands for a test says what the test says
bit_says : (bit size : ℕ) (b : Bool) → 0 < size → bit ≡ cond b 1 0 → not (bit * size == 0) ≡ b
bit_says bit size true some e = rw e (grind (arith, nat_tests))
bit_says bit size false some e =
    let none : bit ≡ 0 = e in
    let nothing : bit * size ≡ 0 = rw none (omega arith) in
    rw nothing refl

pub shared_one : (held channel : ℕ) (b : Bool) → bit_at held channel ≡ cond b 1 0 → is_shared held (2 ^ channel) ≡ b
shared_one held channel b e = ap (λ n. not (n == 0)) (and_pow held channel) ∙ bit_says (bit_at held channel) (2 ^ channel) b (pow_pos channel) e

shared_none : (held : ℕ) → is_shared held 0 ≡ false
shared_none held = ap (λ n. not (n == 0)) (and_zero_r held)

-- the bits of the channels below a count say which hold a message, and no other bit is set
pub record AreHeld (holds : ℕ → Bool) (count held : ℕ) : Type 0 where
  pub done : (k : ℕ) → k < count → bit_at held k ≡ cond (holds k) 1 0
  pub left : (k : ℕ) → count ≤ k → bit_at held k ≡ 0

pub held_more : (holds : ℕ → Bool) (channel held next : ℕ) → AreHeld holds channel held → channel < 64 → holds channel ≡ true → next ≡ bit_or held (1 * 2 ^ channel % 2 ^ 64) → AreHeld holds (channel + 1) next
held_more holds channel held next before below holding is = record {
  done = below_more (λ k. bit_at next k ≡ cond (holds k) 1 0) channel
      (λ k h. let other : k ≢ channel = omega arith in rw is (bit_at_set_other w64 held channel below k other ∙ before.done k h))
      (rw (is, holding) (bit_at_set_same w64 held channel below));
  left = λ k h. let other : k ≢ channel = omega arith in rw is (bit_at_set_other w64 held channel below k other ∙ before.left k (omega arith));
}

pub held_no_more : (holds : ℕ → Bool) (channel held next : ℕ) → AreHeld holds channel held → holds channel ≡ false → next ≡ held → AreHeld holds (channel + 1) next
held_no_more holds channel held next before empty is = rw is (record {
  done = below_more (λ k. bit_at held k ≡ cond (holds k) 1 0) channel before.done (rw empty (before.left channel (omega arith)));
  left = λ k h. before.left k (omega arith);
})

-- so many resources have what is unused of them
pub record AreUnused (caps : List ℕ) (x : Exchange) (count : ℕ) (unused : List ℕ) : Type 0 where
  pub eight : length unused ≡ 8
  pub is : (r : ℕ) → r < count → slice_index unused r ≡ cap_of caps r - use_of x r
  pub within : (r : ℕ) → r < count → use_of x r ≤ cap_of caps r

pub unused_more : (caps : List ℕ) (x : Exchange) (r : ℕ) (unused : List ℕ) (cap used : ℕ) → AreUnused caps x r unused → r < 8 → cap ≡ cap_of caps r → used ≡ use_of x r → used ≤ cap_of caps r → AreUnused caps x (r + 1) (slice_set unused r (cap - used))
unused_more caps x r unused cap used before below cap_is used_is within = record {
  eight = length-set unused r (cap - used) ∙ before.eight;
  is = below_more (λ k. slice_index (slice_set unused r (cap - used)) k ≡ cap_of caps k - use_of x k) r
      (λ k h. let other : k ≢ r = omega arith in get_or-set_other unused r k (cap - used) 0 other ∙ before.is k h)
      (let there : r < length unused = rw before.eight below in get_or-set_same unused r (cap - used) 0 there ∙ rw (cap_is, used_is) refl);
  within = below_more (λ k. use_of x k ≤ cap_of caps k) r before.within (subst (λ n. n ≤ cap_of caps r) used_is within);
}

no_clock : (clock : ℕ) → clock ≤ latest → nat_le (2 ^ 64 - 1) clock ≡ false
no_clock clock h = grind (arith, nat_tests)

fits_same : (used amount cap : ℕ) → used ≤ cap → nat_le amount (cap - used) ≡ nat_le (used + amount) cap
fits_same used amount cap within = grind (arith, nat_tests)

below_eight : (r : ℕ) (b : Bool) → r < 8 → (nat_lt r 8 && b) ≡ b
below_eight r b h = let t : nat_lt r 8 ≡ true = grind (arith, nat_tests) in rw t refl

-- who waits at a place waits for what there is
range_by : (o : Option Wait) (wait : Wait) → o ≡ Some wait → IsWaitInRangeIf o → IsWaitInRange wait
range_by None wait at all = absurd (cc)
range_by (Some other) wait at all = let same : other ≡ wait = cc in subst IsWaitInRange same all

there_by : (places : List (Option Wait)) (place : ℕ) (wait : Wait) → slice_index_or places place None ≡ Some wait → place < length places
there_by [] place wait at = absurd (cc)
there_by (o ∷ places) zero wait at = omega arith
there_by (o ∷ places) (suc place) wait at = let h : place < length places = there_by places place wait at in omega arith

pub range_at : (places : List (Option Wait)) (place : ℕ) (wait : Wait) → All IsWaitInRangeIf places → slice_index_or places place None ≡ Some wait → IsWaitInRange wait
range_at places place wait all at =
    range_by (slice_index_or places place None) wait at (All-get_or IsWaitInRangeIf places place None (there_by places place wait at) all)

-- what is there says which needs are met
pub record Tells (bounds : Bounds) (caps : List ℕ) (x : Exchange) (clock : ℕ) : Type 0 where
  pub arrival : bounds.arrival ≡ holds_some x.arrivals
  pub channels : (channel : ℕ) → channel < 64 → is_shared bounds.channels (2 ^ channel) ≡ holds_some (channel_of x channel)
  pub clock_is : bounds.clock ≡ clock
  pub unused : (r : ℕ) → r < 8 → slice_index bounds.unused r ≡ cap_of caps r - use_of x r
  pub within : (r : ℕ) → r < 8 → use_of x r ≤ cap_of caps r

module _ (bounds : Bounds) (caps : List ℕ) (x : Exchange) (clock : ℕ) (tells : Tells bounds caps x clock) (early : clock ≤ latest) where
  met_block : (since : ℕ) (block : Block) → IsBlockInRange block → is_met bounds (need_of_block since block) ≡ is_ready caps x clock since block
  met_block since Block.Accept in_range = tells.arrival ∙ sym (or-false (holds_some x.arrivals))
  met_block since (Block.Wait channel) in_range =
      rw (tells.channels channel in_range, tells.clock_is, no_clock clock early) refl
  met_block since (Block.Sleep ticks) in_range = rw (shared_none bounds.channels, tells.clock_is) refl
  met_block since Block.Yield in_range = refl
  met_block since (Block.WaitFor channel ticks) in_range =
      rw (tells.channels channel in_range, tells.clock_is) refl
  met_block since (Block.Take r amount) in_range =
      below_eight r (nat_le amount (slice_index bounds.unused r)) in_range.1
      ∙ ap (λ n. nat_le amount n) (tells.unused r in_range.1)
      ∙ fits_same (use_of x r) amount (cap_of caps r) (tells.within r in_range.1)
      ∙ sym (or-false (nat_le (use_of x r + amount) (cap_of caps r)))

  pub met_wait : (wait : Wait) → IsWaitInRange wait → is_met bounds (need_for wait) ≡ is_ready_for caps x clock wait
  met_wait Wait.Fresh in_range = refl
  met_wait (Wait.At block since) in_range = met_block since block in_range.0
