-- The chosen thread runs: it stands at its place, and waits no more.
use Rattle.schedule_reading.proofs.Common.{◌≡◌, ◌≢◌, ℕ, ◌-◌, Bool, true, false, nat_eq, List, [], ◌∷◌, length, map, Option, Some, None, IsSome, option_map, find, refl, sym, ap, ◌∙◌, subst, arith, ⊎_elim, if◌then◌else◌, IsTrue, AllByRecursion, range_with_len, eqb-true, ThreadId, ProgramTree, Waiter, newcomers, AreQueued, IsQueue, at_node, waits, all_at_node, queue_kept, all_but, but, differ_all, once_but, waits_but_other, waits_but_self, lives, Need, SchedulerState, IsNoted, IsTaken, entries_at, queue_of, get, need_for, Wait, Rest, Slot, KeepsOthers, AreThreads, HasSlot, IsScheduled, IsSlot, IsWaiter, RestsAs, numbers_of, ThreadsState, VouchesIn, at_place, wait_of, same_or_not}
use Rattle.c_mean.specs.World as source
use Rattle.choice_rules.proofs.Leaving.{queued_left}
use Rattle.ready_tree.specs.declared.entries.Entry.{Entry}
use Rattle.scheduler.specs.Queues.{is_same, threads_of, without_entry}
use Rattle.schedule_reading.specs.declared.threads.Rest.TheVariants as rest
use Rattle.schedule_reading.proofs.Places.{At, not_vacant, placed_at, placed_by, same_slot, slot_kept, vouched_kept, waiter_kept}

pub none_new : (old : source.World) → newcomers old (length old.threads) ≡ []
none_new old =
    let none : length old.threads - length old.threads ≡ 0 = omega arith in
    ap (λ (n : ℕ). map (λ (thread : ℕ). let w : Waiter = record { thread = thread; node = 0; since = 0 } in w) (range_with_len (length old.threads) n)) none

-- a thread that rests lives
pub rest_lives : (tree : ProgramTree) (r : Rest) (there : source.Rest) → RestsAs tree r there → IsTrue (lives there)
rest_lives tree rest.Away there e = e
rest_lives tree _ there e = subst (λ (x : source.Rest). IsTrue (lives x)) (sym e) refl

module _ (tree : ProgramTree) (old new : ThreadsState) (rests : List source.Rest) (waiting : List Waiter) (chosen : ThreadId) (slot : Slot)
    (are : AreThreads tree old.slots old.waits.places rests waiting) (was : get old.slots chosen.slot ≡ Some slot) (number_is : slot.number ≡ chosen.number)
    (away : get new.slots chosen.slot ≡ Some (record slot { rest = rest.Away })) (none : at_place new.waits.places chosen.slot ≡ None) (others : KeepsOthers old new chosen.slot) where
  abbrev gone : Slot
  gone = record slot { rest = rest.Away }

  own : IsSlot tree old.waits.places rests chosen.slot slot
  own = are.each chosen.slot slot was

  away_slot : IsSlot tree new.waits.places rests chosen.slot gone
  away_slot = record {
    there = own.there;
    is_there = own.is_there;
    rests_as = rest_lives tree slot.rest own.there own.rests_as;
    can_go = tt;
    waits = none;
    in_places = let longer = others.longer in let below = own.in_places in omega (arith, longer, below);
  }

  -- what stands at a place stood there with the same number
  pub record Was (place : ℕ) (s : Slot) : Type 0 where
    pub stood : Slot
    pub there : get old.slots place ≡ Some stood
    pub same : stood.number ≡ s.number

  was_at : (place : ℕ) (s : Slot) → get new.slots place ≡ Some s → Was place s
  was_at place s e = ⊎_elim
      (λ (here : place ≡ chosen.slot).
      let is : gone ≡ s = same_slot new.slots chosen.slot gone s away (ap (get new.slots) (sym here) ∙ e) in
      record { stood = slot; there = ap (get old.slots) here ∙ was; same = ap (λ (x : Slot). x.number) is })
      (λ apart. record { stood = s; there = sym (others.slots place apart) ∙ e; same = refl })
      (same_or_not place chosen.slot)

  each_slot : (place : ℕ) (s : Slot) → get new.slots place ≡ Some s → IsSlot tree new.waits.places rests place s
  each_slot place s e = ⊎_elim
      (λ (here : place ≡ chosen.slot).
      let is : gone ≡ s = same_slot new.slots chosen.slot gone s away (ap (get new.slots) (sym here) ∙ e) in
      subst (λ (x : Slot). IsSlot tree new.waits.places rests place x) is (subst (λ (k : ℕ). IsSlot tree new.waits.places rests k gone) (sym here) away_slot))
      (λ apart. slot_kept tree old new chosen.slot others rests rests place s apart refl (are.each place s (sym (others.slots place apart) ∙ e)))
      (same_or_not place chosen.slot)

  vacant_slot : (place : ℕ) → get new.slots place ≡ None → at_place new.waits.places place ≡ None
  vacant_slot place e = ⊎_elim
      (λ (here : place ≡ chosen.slot). absurd (not_vacant new.slots chosen.slot gone (ap (get new.slots) (sym here) ∙ e) away))
      (λ apart. others.waits place apart ∙ are.vacant place (sym (others.slots place apart) ∙ e))
      (same_or_not place chosen.slot)

  moved : (number : ℕ) → HasSlot old.slots number → HasSlot new.slots number
  moved number has = ⊎_elim
      (λ (here : has.place ≡ chosen.slot).
      let is : slot ≡ has.slot = same_slot old.slots chosen.slot slot has.slot was (ap (get old.slots) (sym here) ∙ has.there) in
      record { place = chosen.slot; slot = gone; there = away; number_is = ap (λ (x : Slot). x.number) is ∙ has.number_is })
      (λ apart. record { place = has.place; slot = has.slot; there = others.slots has.place apart ∙ has.there; number_is = has.number_is })
      (same_or_not has.place chosen.slot)

  -- another number stands elsewhere
  apart_place : (place : ℕ) (s : Slot) → get old.slots place ≡ Some s → s.number ≢ chosen.number → place ≢ chosen.slot
  apart_place place s e differ here =
      let is : slot ≡ s = same_slot old.slots chosen.slot slot s was (ap (get old.slots) (sym here) ∙ e) in
      differ (ap (λ (x : Slot). x.number) (sym is) ∙ number_is)

  left : (ws : List Waiter) → AllByRecursion (IsWaiter old.slots old.waits.places) ws → AllByRecursion (λ w. w.thread ≢ chosen.number) ws → AllByRecursion (IsWaiter new.slots new.waits.places) ws
  left [] all apart = tt
  left (w ∷ ws) all apart = (
    waiter_kept tree old new chosen.slot others w all.0 (apart_place all.0.has.place all.0.has.slot all.0.has.there (λ e. apart.0 (sym all.0.has.number_is ∙ e))),
    left ws all.1 apart.1,
  )

  others_apart : AllByRecursion (λ w. w.thread ≢ chosen.number) (but chosen.number waiting)
  others_apart = differ_all (but chosen.number waiting) chosen.number (waits_but_self chosen.number waiting)

  some_not_none : (o p : Option Wait) → o ≡ p → p ≡ None → IsSome o → ⊥
  some_not_none None p e f some = absurd (cc)
  some_not_none (Some w) p e f some = absurd (cc)

  all_wait : (place : ℕ) (s : Slot) → get new.slots place ≡ Some s → IsSome (at_place new.waits.places place) → IsTrue (waits (but chosen.number waiting) s.number)
  all_wait place s e some = ⊎_elim
      (λ (here : place ≡ chosen.slot). absurd (some_not_none (at_place new.waits.places place) (at_place new.waits.places chosen.slot) (ap (at_place new.waits.places) here) none some))
      (λ apart.
      let there : get old.slots place ≡ Some s = sym (others.slots place apart) ∙ e in
      let differ : s.number ≢ chosen.number = λ same. apart (are.one place chosen.slot s slot there was (same ∙ sym number_is)) in
      waits_but_other chosen.number s.number waiting differ ∙ are.all place s there (subst (λ (o : Option Wait). IsSome o) (others.waits place apart) some))
      (same_or_not place chosen.slot)

  pub are_left : AreThreads tree new.slots new.waits.places rests (but chosen.number waiting)
  are_left = record {
    each = each_slot;
    one = λ place other s t p q same.
        let a = was_at place s p in let b = was_at other t q in
        are.one place other a.stood b.stood a.there b.there (a.same ∙ same ∙ sym b.same);
    vacant = vacant_slot;
    found = λ number r e live. moved number (are.found number r e live);
    waiters = left (but chosen.number waiting) (all_but (IsWaiter old.slots old.waits.places) chosen.number waiting are.waiters) others_apart;
    once = once_but chosen.number waiting are.once;
    all = all_wait;
  }

  -- ---- the queues

  at_moved : (thread : ThreadId) → At old.slots thread → At new.slots thread
  at_moved thread at = ⊎_elim
      (λ (here : thread.slot ≡ chosen.slot).
      let is : slot ≡ at.slot = same_slot old.slots chosen.slot slot at.slot was (ap (get old.slots) (sym here) ∙ at.there) in
      record { slot = gone; there = ap (get new.slots) here ∙ away; number_is = ap (λ (x : Slot). x.number) is ∙ at.number_is })
      (λ apart. record { slot = at.slot; there = others.slots thread.slot apart ∙ at.there; number_is = at.number_is })
      (same_or_not thread.slot chosen.slot)

  trivial : (ws : List Waiter) → AllByRecursion (λ w. Unit {0}) ws
  trivial [] = tt
  trivial (w ∷ ws) = (tt, trivial ws)

  queue_moved : (ts : List ThreadId) (ws : List Waiter) → IsQueue (numbers_of old.slots) ts ws → IsQueue (numbers_of new.slots) ts ws
  queue_moved ts ws q = queue_kept (numbers_of old.slots) (numbers_of new.slots) ts ws (λ w. Unit {0})
      (λ thread w same all placed. placed_by new.slots thread (at_moved thread (placed_at old.slots thread placed))) (trivial ws) q

  -- a thread for whom it is vouched stands at its place
  vouched_number : (thread : ThreadId) (need : Need) (s : Slot) (b : Bool) → nat_eq s.number thread.number ≡ b → get old.slots thread.slot ≡ Some s → VouchesIn old.slots old.waits.places thread need → b ≡ true
  vouched_number thread need s true h e v = refl
  vouched_number thread need s false h e v =
      let at : option_map need_for (wait_of old.waits.places thread (Some s)) ≡ Some need = sym (ap (λ (x : Option Slot). option_map need_for (wait_of old.waits.places thread x)) e) ∙ v in
      let no : ◌≡◌ {A = Option Need} None (Some need) = sym (ap (λ (b : Bool). option_map need_for (if b then at_place old.waits.places thread.slot else None)) h) ∙ at in
      absurd (cc)

  apart_vouched : (thread : ThreadId) (need : Need) → VouchesIn old.slots old.waits.places thread need → thread.number ≢ chosen.number → thread.slot ≢ chosen.slot
  apart_vouched thread need v differ here =
      let there : get old.slots thread.slot ≡ Some slot = ap (get old.slots) here ∙ was in
      let same : nat_eq slot.number thread.number ≡ true = vouched_number thread need slot (nat_eq slot.number thread.number) refl there v in
      differ (sym (eqb-true slot.number thread.number same) ∙ number_is)

  entries_left : (entries : List Entry) (ws : List Waiter) → IsQueue (numbers_of new.slots) (threads_of entries) ws → AllByRecursion (λ w. w.thread ≢ chosen.number) ws → AllByRecursion (λ entry. VouchesIn old.slots old.waits.places entry.thread entry.need) entries →
      AllByRecursion (λ entry. VouchesIn new.slots new.waits.places entry.thread entry.need) entries
  entries_left [] ws q apart all = tt
  entries_left (entry ∷ entries) [] q apart all = absurd q
  entries_left (entry ∷ entries) (w ∷ ws) q apart all = (
    vouched_kept tree old new chosen.slot others entry.thread entry.need (apart_vouched entry.thread entry.need all.0 (λ e. apart.0 (sym q.0 ∙ e))) all.0,
    entries_left entries ws q.1.1 apart.1 all.1,
  )

  -- the entries that are left
  without_on : (P : Entry → Type 0) (same : Bool) (first : Entry) (queue rest : List Entry) → P first → AllByRecursion P queue → AllByRecursion P rest → AllByRecursion P (if same then queue else first ∷ rest)
  without_on P true first queue rest here all more = all
  without_on P false first queue rest here all more = (here, more)

  all_without : (P : Entry → Type 0) (entries : List Entry) → AllByRecursion P entries → AllByRecursion P (without_entry chosen entries)
  all_without P [] all = tt
  all_without P (first ∷ queue) all = without_on P (is_same first.thread chosen) first queue (without_entry chosen queue) all.0 all.1 (all_without P queue all.1)

  module _ (scheduler after : SchedulerState) (node : ℕ) (noted : IsNoted scheduler after (record { thread = chosen; node = node })) (taken : IsTaken scheduler after (record { thread = chosen; node = node }))
      (eligible : ThreadId → Bool) (test : Waiter → Bool) (waiter : Waiter) (first : find eligible (queue_of scheduler node) ≡ Some chosen) (found : find test (at_node waiting node) ≡ Some waiter) (same : chosen.number ≡ waiter.thread)
      (is : IsScheduled old.slots old.waits.places scheduler waiting) where
    queued_old : AreQueued (numbers_of old.slots) after (but waiter.thread waiting)
    queued_old = queued_left (numbers_of old.slots) scheduler after (record { thread = chosen; node = node }) waiting eligible test waiter are.once is.queued noted first found same

    queued_new : AreQueued (numbers_of new.slots) after (but chosen.number waiting)
    queued_new = record {
      queue = λ other. queue_moved (queue_of after other) (at_node (but chosen.number waiting) other)
          (subst (λ (n : ℕ). IsQueue (numbers_of old.slots) (queue_of after other) (at_node (but n waiting) other)) (sym same) (queued_old.queue other));
    }

    known_old : (other : ℕ) → AllByRecursion (λ entry. VouchesIn old.slots old.waits.places entry.thread entry.need) (entries_at after other)
    known_old other = ⊎_elim
        (λ (here : other ≡ node).
        subst (λ (n : ℕ). AllByRecursion (λ entry. VouchesIn old.slots old.waits.places entry.thread entry.need) (entries_at after n)) (sym here)
        (subst (AllByRecursion (λ entry. VouchesIn old.slots old.waits.places entry.thread entry.need)) (sym taken.queue)
        (all_without (λ entry. VouchesIn old.slots old.waits.places entry.thread entry.need) (entries_at scheduler node) (is.known node))))
        (λ apart. subst (AllByRecursion (λ entry. VouchesIn old.slots old.waits.places entry.thread entry.need)) (sym (taken.others other apart)) (is.known other))
        (same_or_not other node)

    pub scheduled_left : IsScheduled new.slots new.waits.places after (but chosen.number waiting)
    scheduled_left = record {
      queued = queued_new;
      known = λ other. entries_left (entries_at after other) (at_node (but chosen.number waiting) other) (queued_new.queue other)
          (all_at_node (λ w. w.thread ≢ chosen.number) (but chosen.number waiting) other others_apart) (known_old other);
    }
