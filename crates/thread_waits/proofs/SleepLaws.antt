-- Who sleeps has a time that is to come, and no message at his channel. The least time of all is the tree's where no message
-- waits for anybody, or else is found place by place.
use Rattle.std.specs.Prelude.{if◌then◌else◌}
use Rattle.thread_waits.proofs.Common.{◌≡◌, ◌≢◌, ℕ, zero, suc, ◌+◌, ◌<◌, ◌≤◌, ◌⊎◌, inl, inr, ◌||◌, Bool, true, false, cond, List, [], ◌∷◌, length, map, min, All, Contains, Option, Some, None, refl, sym, ◌∙◌, ap, subst, arith, below_more, count_by, nat_le, slice_index_or, list_any, get_or-map, length-map, All-from_get_or, list_any_none, list_any-from_Any, Block, Exchange, cap_of, channel_of, holds_some, ticks_of, use_of, Wait, IsLeast, Waiting, IsWaitInRangeIf, IsWake, latest, sleeps_in, IsTreeOf, is_ready_always, is_ready_anyway, later_wake, if_later, no_number, number_or, wake_of, is_at_message, silent_wake, HasPlace, IsLeastOfFirst, IsLeastNumber, or_parts, cases_lt}
use Rattle.thread_waits.proofs.AnyLaws.{none_from_count}
use Rattle.thread_waits.proofs.BlockLaws.{lesser_is, number_is, past_or_not}
use Rattle.thread_waits.proofs.GrownLaws.{holds_at}
use Rattle.thread_waits.proofs.TimeLaws.{le_yes, le_no, later_yes, later_no, later_same, past_ready, none_or_some, unready}
use Rattle.thread_waits.proofs.NoWakeLaws.{wake_small, none_by}
use Rattle.thread_waits.proofs.ReadyLaws.{default_same}
use Rattle.thread_waits.proofs.WakeLaws.{no_lower, place_of}

-- ---- one who waits

none_either : (b : Bool) → ◌≡◌ {A = Option ℕ} (if b then None else None) None
none_either true = refl
none_either false = refl

past_by : (clock time : ℕ) → (clock < time) ⊎ (time ≤ clock) → ◌≡◌ {A = Option ℕ} (if nat_le time clock then None else Some time) (if_later clock (Some time))
past_by clock time (inl later) = ap (λ (b : Bool). cond b None (Some time)) (le_no time clock later) ∙ sym (later_yes clock time later)
past_by clock time (inr past) = ap (λ (b : Bool). cond b None (Some time)) (le_yes time clock past) ∙ sym (later_no clock time past)

message_or_past : (h : Bool) (clock time : ℕ) → ◌≡◌ {A = Option ℕ} (if h || nat_le time clock then None else Some time) (if h then None else if_later clock (Some time))
message_or_past true clock time = refl
message_or_past false clock time = past_by clock time (cases_lt clock time)

sleeps_block : (caps : List ℕ) (x : Exchange) (clock since : ℕ) (block : Block) → sleeps_in caps x clock (Some (Wait.At block since)) ≡ silent_wake x clock (Some (Wait.At block since))
sleeps_block caps x clock since Block.Accept = none_either (holds_some x.arrivals || false)
sleeps_block caps x clock since (Block.Wait channel) = none_either (holds_some (channel_of x channel) || false) ∙ sym (none_either (holds_some (channel_of x channel)))
sleeps_block caps x clock since (Block.Sleep ticks) = past_by clock (since + ticks_of ticks) (cases_lt clock (since + ticks_of ticks))
sleeps_block caps x clock since Block.Yield = refl
sleeps_block caps x clock since (Block.Take resource amount) = none_either (nat_le (use_of x resource + amount) (cap_of caps resource) || false)
sleeps_block caps x clock since (Block.WaitFor channel ticks) = message_or_past (holds_some (channel_of x channel)) clock (since + ticks_of ticks)

pub sleeps_by : (caps : List ℕ) (x : Exchange) (clock : ℕ) (wait : Option Wait) → sleeps_in caps x clock wait ≡ silent_wake x clock wait
sleeps_by caps x clock (Some (Wait.At block since)) = sleeps_block caps x clock since block
sleeps_by caps x clock _ = refl

silent : (x : Exchange) (clock : ℕ) (wait : Option Wait) → is_at_message x wait ≡ false → silent_wake x clock wait ≡ later_wake clock wait
silent x clock wait e = ap (λ (b : Bool). cond b None (later_wake clock wait)) e

spoken_not : (b : Bool) (o : Option ℕ) (n : ℕ) → (if b then None else o) ≡ Some n → o ≡ Some n
spoken_not true o n e = absurd (let no : None ≡ Some n = e in cc)
spoken_not false o n e = e

-- every time is a number
pub silent_small : (x : Exchange) (clock n : ℕ) (wait : Option Wait) → IsWaitInRangeIf wait → silent_wake x clock wait ≡ Some n → n < no_number
silent_small x clock n wait r e = wake_small clock n wait r (spoken_not (is_at_message x wait) (later_wake clock wait) n e)

-- ---- the least by the tree

none_passes : (p : Option Wait → Bool) (places : List (Option Wait)) → list_any p places ≡ false → (k : ℕ) → k < length places → p (slice_index_or places k None) ≡ false
none_passes p [] e k h = absurd (omega arith)
none_passes p (wait ∷ places) e zero h = (or_parts (p wait) (list_any p places) e).0
none_passes p (wait ∷ places) e (suc k) h = none_passes p places (or_parts (p wait) (list_any p places) e).1 k (omega arith)

-- where no message waits for anybody and nobody's time has come
module _ (x : Exchange) (clock : ℕ) (places : List (Option Wait)) (leaves : List ℕ) (least : ℕ) (quiet : list_any (is_at_message x) places ≡ false) (ranges : All IsWaitInRangeIf places) (t : IsTreeOf wake_of places leaves) (l : IsLeast leaves least) (later : clock < least) where
  low_of : (k : ℕ) → k < length places → least ≤ number_or (wake_of (slice_index_or places k None))
  low_of k h = no_lower wake_of refl places leaves t least l k h

  same_at : (k : ℕ) → k < length places → silent_wake x clock (slice_index_or places k None) ≡ wake_of (slice_index_or places k None)
  same_at k h =
      let low : least ≤ number_or (wake_of (slice_index_or places k None)) = low_of k h in
      silent x clock (slice_index_or places k None) (none_passes (is_at_message x) places quiet k h) ∙ later_same clock (wake_of (slice_index_or places k None)) (omega arith)

  low_at : (k : ℕ) → k < length places → least ≤ number_or (silent_wake x clock (slice_index_or places k None))
  low_at k h = subst (λ (n : ℕ). least ≤ n) (ap number_or (sym (same_at k h))) (low_of k h)

  stands_at : least ≢ no_number → HasPlace (silent_wake x clock) places least
  stands_at d =
      let p : HasPlace wake_of places least = place_of wake_of refl places leaves t least l d in
      record { place = p.place; there = p.there; number = same_at p.place p.there ∙ p.number }

  pub tree_least : IsLeastNumber (silent_wake x clock) places least
  tree_least = record {
    numbers = λ k h n e. silent_small x clock n (slice_index_or places k None) (holds_at IsWaitInRangeIf tt places ranges k) e;
    lowest = low_at;
    stands = stands_at;
  }

-- ---- who is ready by the clock

-- where nobody is ready always, somebody is by the clock exactly where the least time has come
module _ (clock : ℕ) (possible : clock ≤ latest) (places : List (Option Wait)) (leaves : List ℕ) (least : ℕ) (none : count_by is_ready_always places ≡ 0) (t : IsTreeOf wake_of places leaves) (l : IsLeast leaves least) where
  past_by_least : (clock < least) ⊎ (least ≤ clock) → nat_le least clock ≡ list_any (is_ready_anyway clock) places
  past_by_least (inl h) =
      le_no least clock h
      ∙ sym (list_any_none (is_ready_anyway clock) places (All-from_get_or (λ wait. is_ready_anyway clock wait ≡ false) places None (λ k there.
      let low : least ≤ number_or (wake_of (slice_index_or places k None)) = no_lower wake_of refl places leaves t least l k there in
      unready clock (slice_index_or places k None) (none_passes is_ready_always places (none_from_count is_ready_always places none) k there) (omega arith))))
  past_by_least (inr h) =
      let p : HasPlace wake_of places least = place_of wake_of refl places leaves t least l (λ e. absurd (omega arith)) in
      le_yes least clock h
      ∙ sym (list_any-from_Any (is_ready_anyway clock) places
      (p.place, slice_index_or places p.place None, p.there, default_same places p.place p.there, past_ready clock least (slice_index_or places p.place None) p.number h))

  pub past_least : nat_le least clock ≡ list_any (is_ready_anyway clock) places
  past_least = past_by_least (cases_lt clock least)

-- ---- the least place by place

pub none_first : (f : Option Wait → Option ℕ) (places : List (Option Wait)) → IsLeastOfFirst f places 0 no_number
none_first f places = record { numbers = λ k h n e. absurd (omega (arith, h)); lowest = λ k h. absurd (omega (arith, h)); stands = λ d. absurd (d refl) }

module _ (f : Option Wait → Option ℕ) (places : List (Option Wait)) (count least number : ℕ) (there : count < length places) (so : IsLeastOfFirst f places count least)
    (small : (n : ℕ) → f (slice_index_or places count None) ≡ Some n → n < no_number) (is : number ≡ number_or (f (slice_index_or places count None))) where
  stands_from : (value : ℕ) → value ≢ no_number → (value ≡ least) ⊎ (value ≡ number) → HasPlace f places value
  stands_from value d (inl same) = subst (λ (n : ℕ). HasPlace f places n) (sym same) (so.stands (λ e. d (same ∙ e)))
  stands_from value d (inr same) = record { place = count; there = there; number = number_is (f (slice_index_or places count None)) value (sym (same ∙ is)) d }

  pub one_more : IsLeastOfFirst f places (count + 1) (min least number)
  one_more = record {
    numbers = below_more (λ k. (n : ℕ) → f (slice_index_or places k None) ≡ Some n → n < no_number) count so.numbers small;
    lowest = below_more (λ k. min least number ≤ number_or (f (slice_index_or places k None))) count
        (λ k h. let low : least ≤ number_or (f (slice_index_or places k None)) = so.lowest k h in omega arith)
        (subst (λ (n : ℕ). min least number ≤ n) is (omega arith));
    stands = λ d. stands_from (min least number) d (lesser_is least number (past_or_not least number));
  }

pub first_all : (f : Option Wait → Option ℕ) (places : List (Option Wait)) (count least : ℕ) → length places ≤ count → IsLeastOfFirst f places count least → IsLeastNumber f places least
first_all f places count least past so = record { numbers = λ k h. so.numbers k (omega (arith, past, h)); lowest = λ k h. so.lowest k (omega (arith, past, h)); stands = so.stands }

-- ---- what is told

module _ (caps : List ℕ) (x : Exchange) (w : Waiting) (least : ℕ) (so : IsLeastNumber (silent_wake x w.clock) w.places least) where
  at_place : (k : ℕ) → sleeps_in caps x w.clock (slice_index_or w.places k None) ≡ silent_wake x w.clock (slice_index_or w.places k None)
  at_place k = sleeps_by caps x w.clock (slice_index_or w.places k None)

  stands_there : HasPlace (silent_wake x w.clock) w.places least → Contains (map (sleeps_in caps x w.clock) w.places) (Some least)
  stands_there p = (p.place, rw length-map p.there, get_or-map (sleeps_in caps x w.clock) w.places p.place None (Some least) p.there ∙ at_place p.place ∙ p.number)

  no_lesser_time : (other : ℕ) → Contains (map (sleeps_in caps x w.clock) w.places) (Some other) → least ≤ other
  no_lesser_time other c =
      let k : ℕ = c.0 in
      let there : k < length w.places = rw length-map at c.1 in
      let is : silent_wake x w.clock (slice_index_or w.places k None) ≡ Some other = sym (at_place k) ∙ sym (get_or-map (sleeps_in caps x w.clock) w.places k None (Some other) there) ∙ c.2 in
      subst (λ (n : ℕ). least ≤ n) (ap number_or is) (so.lowest k there)

  pub wake_told : least < no_number → IsWake caps x w (Some least)
  wake_told h = (stands_there (so.stands (λ e. absurd (omega (arith, h, e)))), no_lesser_time)

  nobody_at : (k : ℕ) → k < length w.places → no_number ≤ least → sleeps_in caps x w.clock (slice_index_or w.places k None) ≡ None
  nobody_at k there h =
      at_place k ∙ none_by (silent_wake x w.clock (slice_index_or w.places k None))
      (λ n e.
      let low : least ≤ n = subst (λ (m : ℕ). least ≤ m) (ap number_or e) (so.lowest k there) in
      let small : n < no_number = so.numbers k there n e in omega (arith, h, low, small))
      (none_or_some (silent_wake x w.clock (slice_index_or w.places k None)))

  pub nobody_told : no_number ≤ least → IsWake caps x w None
  nobody_told h = All-from_get_or (λ wait. sleeps_in caps x w.clock wait ≡ None) w.places None (λ k there. nobody_at k there h)
