-- A segment was taken in, and its thread has come to wait at a node.
use Rattle.schedule_reading.proofs.Common.{◌≡◌, ℕ, ◌+◌, ◌≤◌, Bool, Option, None, IsSome, refl, sym, ap, subst, arith, if◌then◌else◌, eq-eqb, count_of, Block, Need, row_of, Wait, Under, Slot, HasBlocked, IsAway, HasClosed, HasRested, MayClose, closed, Core, Kept, ThreadsState, Vouches, at_place, wait_of, waits_for}
use Rattle.scheduler.specs.State.{SchedulerState, IsJoined, IsTold}
use Rattle.thread_waits.specs.Waiting.{latest}

module _ (old : Kept) (under : Under) (node : ℕ) (block : Block) (cost free : ℕ) (mid : Kept) (c : HasClosed old under node cost free mid) where
  core_is : mid.core ≡ closed old.core under node cost free
  core_is = ap (λ (k : Kept). k.core) c.after

  pub away_then : IsAway old.core.threads under.choice.thread → IsAway mid.core.threads under.choice.thread
  away_then is = subst (λ (k : Core). IsAway k.threads under.choice.thread) (sym core_is) (record { slot = is.slot; there = is.there; number_is = is.number_is; waits = is.waits; place = is.place })

  pub untrapped_then : (row_of old.core.threads.exchange block).trap ≡ None → (row_of mid.core.threads.exchange block).trap ≡ None
  untrapped_then is = subst (λ (k : Core). (row_of k.threads.exchange block).trap ≡ None) (sym core_is) is

  pub early_then : MayClose old.core under cost free → mid.core.threads.waits.clock ≤ latest
  early_then may = let most = may.clock in let now = ap (λ (k : Core). k.threads.waits.clock) core_is in omega (arith, most, now)

  module _ (threads : ThreadsState) (blocked : HasBlocked mid.core.threads under.choice.thread block under.thread threads) where
    pub waits_then : IsAway mid.core.threads under.choice.thread → IsSome (waits_for threads under.choice.thread)
    waits_then is =
        subst (λ (o : Option Slot). IsSome (wait_of threads.waits.places under.choice.thread o)) (sym (blocked.blocked is.slot is.there))
        (subst (λ (b : Bool). IsSome (if b then at_place threads.waits.places under.choice.thread.slot else None)) (sym (eq-eqb is.slot.number under.choice.thread.number is.number_is))
        (subst (λ (o : Option Wait). IsSome o) (sym blocked.waits) refl))

    pub has_rested : (scheduler : SchedulerState) (need : Need) (new : Kept) → IsJoined mid.core.scheduler scheduler node under.choice.thread → IsTold mid.core.scheduler scheduler node (record { thread = under.choice.thread; need = need }) → Vouches threads under.choice.thread need →
        record mid { core = record mid.core { threads = threads; scheduler = scheduler } } ≡ new → HasRested old under node block cost free new
    has_rested scheduler need new joined told vouched new_is = subst (λ (n : Kept). HasRested old under node block cost free n) new_is (record {
      counted = subst (λ (k : Core). count_of k.graph.edges ≡ count_of old.core.graph.edges + 1) core_is c.counted;
      blocked = subst (λ (k : Core). HasBlocked k.threads under.choice.thread block under.thread threads) core_is blocked;
      need = need;
      joined = subst (λ (s : SchedulerState). IsJoined s scheduler node under.choice.thread) (ap (λ (k : Core). k.scheduler) core_is) joined;
      told = subst (λ (s : SchedulerState). IsTold s scheduler node (record { thread = under.choice.thread; need = need })) (ap (λ (k : Core). k.scheduler) core_is) told;
      vouched = vouched;
      after = ap (λ (x : Kept). record x { core = record x.core { threads = threads; scheduler = scheduler } }) c.after;
    })
