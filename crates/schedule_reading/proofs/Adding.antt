-- A thread that starts stands at a place that was vacant, and waits at node 0.
use Rattle.schedule_reading.proofs.Common.{◌≡◌, ◌≢◌, ℕ, ◌+◌, ◌-◌, ◌<◌, ◌⊎◌, inl, inr, Bool, List, [], ◌∷◌, ◌++◌, length, map, Option, Some, None, IsSome, option_map, refl, sym, ap, ◌∙◌, subst, arith, append_assoc, slice_get, if◌then◌else◌, eq-eqb, ThreadId, Exchange, ProgramTree, signature_of, Waiter, newcomers, newcomers_more, Given, State, Need, get, Exchanging, need_for, Wait, Slot, HasAdded, AreBeside, AreThreads, IsScheduled, IsSlot, waiting_with, ThreadsState, VouchesIn, at_place, wait_of, length_push, same_or_not}
use Rattle.std.proofs.lemmas.Option.{slice_get_within}
use Rattle.c_mean.specs.World as source
use Rattle.cap_word.specs.Signatures.{signature_at}
use Rattle.scheduler.specs.State.{SchedulerState, IsJoined, IsTold}
use Rattle.schedule_reading.specs.declared.threads.Rest.TheVariants as rest
use Rattle.schedule_reading.proofs.Joins.{joins}
use Rattle.schedule_reading.proofs.Places.{not_vacant, placed_by, scheduled_kept, vouched_there}
use Rattle.schedule_reading.proofs.Standing.{are_joined, count_more, more_last, more_other}

abbrev pub newcomer : ℕ → Waiter
newcomer number = record { thread = number; node = 0; since = 0 }

-- ---- the threads

module _ (tree : ProgramTree) (old new : ThreadsState) (rests : List source.Rest) (waiting : List Waiter) (function argument : ℕ) (thread : ThreadId)
    (are : AreThreads tree old.slots old.waits.places rests waiting) (count : old.next ≡ length rests) (added : HasAdded old function (Some argument) new thread)
    (there : (function < length tree.functions) × ((signature_at (map signature_of tree.functions) function).params ≡ 1)) where
  abbrev fresh : source.Rest
  fresh = source.Fresh function (argument ∷ [])

  abbrev more : List source.Rest
  more = rests ++ fresh ∷ []

  abbrev slot_of : Slot
  slot_of = record { number = old.next; rest = rest.Fresh function (Some argument) }

  below : (place : ℕ) (slot : Slot) → get old.slots place ≡ Some slot → slot.number < length rests
  below place slot e = let s = are.each place slot e in slice_get_within rests slot.number s.there s.is_there

  apart_from : (place : ℕ) (slot : Slot) → get old.slots place ≡ Some slot → place ≢ thread.slot
  apart_from place slot e same = not_vacant old.slots place slot (ap (get old.slots) same ∙ added.vacant) e

  own_slot : IsSlot tree new.waits.places more thread.slot slot_of
  own_slot = record {
    there = fresh;
    is_there = ap (slice_get more) count ∙ more_last rests fresh;
    rests_as = refl;
    can_go = there;
    waits = added.waits;
    in_places = added.place;
  }

  pub are_more : AreThreads tree new.slots new.waits.places more (waiting ++ newcomer (length rests) ∷ [])
  are_more = are_joined tree old new thread.slot (length rests) rests more waiting are added.others (more_other rests fresh) (are.vacant thread.slot added.vacant)
      (λ s e. absurd (not_vacant old.slots thread.slot s added.vacant e))
      (λ p s e apart same. let few = below p s e in omega (arith, few, same))
      slot_of Wait.Fresh 0 0 added.added count own_slot added.waits tt

  -- ---- the queues

  module _ (scheduler after : SchedulerState) (joined : IsJoined scheduler after 0 thread) (told : IsTold scheduler after 0 (record { thread = thread; need = Need.Nothing })) (is : IsScheduled old.slots old.waits.places scheduler waiting) where
    kept : IsScheduled new.slots new.waits.places scheduler waiting
    kept = scheduled_kept tree old new thread.slot added.others scheduler waiting are.waiters is
        (λ t w same waiter at. apart_from t.slot at.slot at.there)
        (λ entry vouched same. vouched_there old.slots old.waits.places entry.thread entry.need vouched (ap (get old.slots) same ∙ added.vacant))

    vouched : VouchesIn new.slots new.waits.places thread Need.Nothing
    vouched =
        ap (λ (o : Option Slot). option_map need_for (wait_of new.waits.places thread o)) added.added
        ∙ ap (λ (b : Bool). option_map need_for (if b then at_place new.waits.places thread.slot else None)) (eq-eqb old.next thread.number (sym added.number))
        ∙ ap (option_map need_for) added.waits

    pub scheduled_more : IsScheduled new.slots new.waits.places after (waiting ++ newcomer (length rests) ∷ [])
    scheduled_more =
        subst (λ (n : ℕ). IsScheduled new.slots new.waits.places after (waiting ++ newcomer n ∷ [])) (added.number ∙ count)
        (joins new.slots new.waits.places scheduler after 0 thread Need.Nothing waiting 0 joined told
        (placed_by new.slots thread (record { slot = slot_of; there = added.added; number_is = sym added.number })) vouched kept)

-- ---- beside the thread that runs

pub beside_more : (g : Given) (state : State) (rests : List source.Rest) (exchange : Exchange) (number : ℕ) (old new : ThreadsState) (scheduler after : SchedulerState) (running thread : ThreadId) (function argument : ℕ) →
    AreBeside g state rests exchange number old scheduler running → HasAdded old function (Some argument) new thread → IsJoined scheduler after 0 thread → IsTold scheduler after 0 (record { thread = thread; need = Need.Nothing }) →
    (function < length g.program.functions) × ((signature_at (map signature_of g.program.functions) function).params ≡ 1) →
    AreBeside g state (rests ++ source.Fresh function (argument ∷ []) ∷ []) exchange number new after running
beside_more g state rests exchange number old new scheduler after running thread function argument b added joined told there =
    let more : List source.Rest = rests ++ source.Fresh function (argument ∷ []) ∷ [] in
    let long : length more ≡ length rests + 1 = length_push rests (source.Fresh function (argument ∷ [])) in
    let apart : running.slot ≢ thread.slot = λ same. not_vacant old.slots running.slot b.away (ap (get old.slots) same ∙ added.vacant) b.away_there in
    let who : waiting_with state rests ++ newcomer (length rests) ∷ [] ≡ waiting_with state more =
    append_assoc state.waiting (newcomers state.source (length rests)) (newcomer (length rests) ∷ [])
    ∙ ap (λ (l : List Waiter). state.waiting ++ l) (sym (newcomers_more state.source (length rests) b.started) ∙ ap (newcomers state.source) (sym long)) in
    record {
      are = record {
        exchange_is = ap (λ (x : Exchanging). x.exchange) added.exchange ∙ b.are.exchange_is;
        uses = b.are.uses;
        count = added.next ∙ ap (λ (n : ℕ). n + 1) b.are.count ∙ sym long;
        live = added.live ∙ ap (λ (n : ℕ). n + 1) b.are.live ∙ sym (count_more rests (source.Fresh function (argument ∷ [])) refl);
        are = subst (λ (l : List Waiter). AreThreads g.program new.slots new.waits.places more l) who
            (are_more g.program old new rests (waiting_with state rests) function argument thread b.are.are b.are.count added there);
      };
      started = let first = b.started in omega (arith, long, first);
      away = b.away;
      away_there = added.others.slots running.slot apart ∙ b.away_there;
      away_number = b.away_number;
      away_waits = added.others.waits running.slot apart ∙ b.away_waits;
      resting = λ place slot away_from e. resting place slot away_from e (same_or_not place thread.slot);
      number_is = b.number_is;
      scheduled = subst (λ (l : List Waiter). IsScheduled new.slots new.waits.places after l) who
          (scheduled_more g.program old new rests (waiting_with state rests) function argument thread b.are.are b.are.count added there scheduler after joined told b.scheduled);
    } where
      resting : (place : ℕ) (slot : Slot) → place ≢ running.slot → get new.slots place ≡ Some slot → (place ≡ thread.slot) ⊎ (place ≢ thread.slot) → IsSome (at_place new.waits.places place)
      resting place slot away_from e (inl same) = subst (λ (o : Option Wait). IsSome o) (sym (ap (at_place new.waits.places) same ∙ added.waits)) refl
      resting place slot away_from e (inr apart) =
          subst (λ (o : Option Wait). IsSome o) (sym (added.others.waits place apart)) (b.resting place slot away_from (sym (added.others.slots place apart) ∙ e))
