-- One place changes: what stands and waits at the others stays.
use Rattle.schedule_reading.proofs.Common.{◌≡◌, ◌≢◌, ℕ, suc, List, [], ◌∷◌, Option, Some, None, option_map, refl, sym, ap, ◌∙◌, subst, arith, if◌then◌else◌, nat_eq, map, slice_get, slice_index_or, AllByRecursion, ThreadId, ProgramTree, Waiter, IsPlaced, at_node, all_at_node, queue_kept, Need, SchedulerState, entries_at, queue_of, Slab, get, need_for, Wait, Slot, KeepsOthers, IsScheduled, IsSince, IsSlot, IsWaiter, numbers_of, ThreadsState, VouchesIn, WaitsAs, at_place, wait_of, waits_in}
use Rattle.c_mean.specs.World as source
use Rattle.ready_tree.specs.declared.entries.Entry.{Entry}

-- ---- what stands at a place, and its number

numbers_at : (slots : List (Option Slot)) (k : ℕ) → slice_index_or (map (option_map (λ (slot : Slot). slot.number)) slots) k None ≡ option_map (λ (slot : Slot). slot.number) (slice_index_or slots k None)
numbers_at (x ∷ xs) (suc k) = numbers_at xs k
numbers_at _ _ = refl

pub number_at : (slots : Slab Slot) (k : ℕ) → slice_index_or (numbers_of slots) k None ≡ option_map (λ (slot : Slot). slot.number) (get slots k)
number_at slots k = numbers_at slots.slots k

-- a thread with its slot
pub record At (slots : Slab Slot) (thread : ThreadId) : Type 0 where
  pub slot : Slot
  pub there : get slots thread.slot ≡ Some slot
  pub number_is : slot.number ≡ thread.number

at_by : (slots : Slab Slot) (thread : ThreadId) (o : Option Slot) → get slots thread.slot ≡ o → option_map (λ (slot : Slot). slot.number) o ≡ Some thread.number → At slots thread
at_by slots thread None e n = absurd (cc)
at_by slots thread (Some slot) e n = record { slot = slot; there = e; number_is = cc }

pub placed_at : (slots : Slab Slot) (thread : ThreadId) → IsPlaced (numbers_of slots) thread → At slots thread
placed_at slots thread placed = at_by slots thread (get slots thread.slot) refl (sym (number_at slots thread.slot) ∙ placed)

pub placed_by : (slots : Slab Slot) (thread : ThreadId) → At slots thread → IsPlaced (numbers_of slots) thread
placed_by slots thread at = number_at slots thread.slot ∙ ap (option_map (λ (slot : Slot). slot.number)) at.there ∙ ap (λ (n : ℕ). Some n) at.number_is

-- two slots at one place
pub same_slot : (slots : Slab Slot) (place : ℕ) (a b : Slot) → get slots place ≡ Some a → get slots place ≡ Some b → a ≡ b
same_slot slots place a b p q = let both : Some a ≡ Some b = sym p ∙ q in cc

pub not_vacant : (slots : Slab Slot) (place : ℕ) (slot : Slot) → get slots place ≡ None → get slots place ≡ Some slot → ⊥
not_vacant slots place slot none some = absurd (let both : None ≡ Some slot = sym none ∙ some in cc)

-- ---- one place changes

module _ (tree : ProgramTree) (old new : ThreadsState) (place : ℕ) (keeps : KeepsOthers old new place) where
  pub slot_kept : (rests more : List source.Rest) (other : ℕ) (slot : Slot) → other ≢ place → slice_get more slot.number ≡ slice_get rests slot.number → IsSlot tree old.waits.places rests other slot → IsSlot tree new.waits.places more other slot
  slot_kept rests more other slot apart same s = record {
    there = s.there;
    is_there = same ∙ s.is_there;
    rests_as = s.rests_as;
    can_go = s.can_go;
    waits = subst (WaitsAs slot.rest) (sym (keeps.waits other apart)) s.waits;
    in_places = let longer = keeps.longer in let below = s.in_places in omega (arith, longer, below);
  }

  pub waiter_kept : (w : Waiter) (is : IsWaiter old.slots old.waits.places w) → is.has.place ≢ place → IsWaiter new.slots new.waits.places w
  waiter_kept w is apart = record {
    has = record { place = is.has.place; slot = is.has.slot; there = keeps.slots is.has.place apart ∙ is.has.there; number_is = is.has.number_is };
    since = subst (IsSince w.since) (sym (keeps.waits is.has.place apart)) is.since;
  }

  pub waiters_kept : (ws : List Waiter) → AllByRecursion (IsWaiter old.slots old.waits.places) ws → ((w : Waiter) (is : IsWaiter old.slots old.waits.places w) → is.has.place ≢ place) → AllByRecursion (IsWaiter new.slots new.waits.places) ws
  waiters_kept [] all apart = tt
  waiters_kept (w ∷ ws) all apart = (waiter_kept w all.0 (apart w all.0), waiters_kept ws all.1 apart)

  -- a thread elsewhere stays at its place, and what it waits for
  pub at_kept : (thread : ThreadId) → thread.slot ≢ place → At old.slots thread → At new.slots thread
  at_kept thread apart at = record { slot = at.slot; there = keeps.slots thread.slot apart ∙ at.there; number_is = at.number_is }

  waits_of_slot : (thread : ThreadId) (o : Option Slot) → at_place new.waits.places thread.slot ≡ at_place old.waits.places thread.slot → wait_of new.waits.places thread o ≡ wait_of old.waits.places thread o
  waits_of_slot thread None e = refl
  waits_of_slot thread (Some slot) e = ap (λ (o : Option Wait). if nat_eq slot.number thread.number then o else None) e

  pub waits_kept : (thread : ThreadId) → thread.slot ≢ place → waits_in new.slots new.waits.places thread ≡ waits_in old.slots old.waits.places thread
  waits_kept thread apart =
      ap (λ (o : Option Slot). wait_of new.waits.places thread o) (keeps.slots thread.slot apart)
      ∙ waits_of_slot thread (get old.slots thread.slot) (keeps.waits thread.slot apart)

  pub vouched_kept : (thread : ThreadId) (need : Need) → thread.slot ≢ place → VouchesIn old.slots old.waits.places thread need → VouchesIn new.slots new.waits.places thread need
  vouched_kept thread need apart vouched = ap (option_map need_for) (waits_kept thread apart) ∙ vouched

  entries_kept : (entries : List Entry) → ((entry : Entry) → VouchesIn old.slots old.waits.places entry.thread entry.need → entry.thread.slot ≢ place) → AllByRecursion (λ entry. VouchesIn old.slots old.waits.places entry.thread entry.need) entries →
      AllByRecursion (λ entry. VouchesIn new.slots new.waits.places entry.thread entry.need) entries
  entries_kept [] apart all = tt
  entries_kept (entry ∷ entries) apart all = (vouched_kept entry.thread entry.need (apart entry all.0) all.0, entries_kept entries apart all.1)

  -- the queues stay those of who waits, where nobody of them stood at the place
  pub scheduled_kept : (scheduler : SchedulerState) (waiting : List Waiter) → AllByRecursion (IsWaiter old.slots old.waits.places) waiting → IsScheduled old.slots old.waits.places scheduler waiting →
      ((thread : ThreadId) (w : Waiter) → thread.number ≡ w.thread → IsWaiter old.slots old.waits.places w → At old.slots thread → thread.slot ≢ place) →
      ((entry : Entry) → VouchesIn old.slots old.waits.places entry.thread entry.need → entry.thread.slot ≢ place) → IsScheduled new.slots new.waits.places scheduler waiting
  scheduled_kept scheduler waiting all is apart none = record {
    queued = record {
      queue = λ node. queue_kept (numbers_of old.slots) (numbers_of new.slots) (queue_of scheduler node) (at_node waiting node) (IsWaiter old.slots old.waits.places)
          (λ thread w same waiter placed.
          let at = placed_at old.slots thread placed in
          placed_by new.slots thread (at_kept thread (apart thread w same waiter at) at))
          (all_at_node (IsWaiter old.slots old.waits.places) waiting node all) (is.queued.queue node);
    };
    known = λ node. entries_kept (entries_at scheduler node) none (is.known node);
  }

-- ---- who waits at a place

-- what a thread waits for is waited for at its place, where it stands
vouched_by : (slots : Slab Slot) (places : List (Option Wait)) (thread : ThreadId) (need : Need) (o : Option Slot) → get slots thread.slot ≡ o → option_map need_for (wait_of places thread o) ≡ Some need → get slots thread.slot ≡ None → ⊥
vouched_by slots places thread need None e v none = absurd (cc)
vouched_by slots places thread need (Some slot) e v none = not_vacant slots thread.slot slot none e

pub vouched_there : (slots : Slab Slot) (places : List (Option Wait)) (thread : ThreadId) (need : Need) → VouchesIn slots places thread need → get slots thread.slot ≡ None → ⊥
vouched_there slots places thread need v none = vouched_by slots places thread need (get slots thread.slot) refl v none
