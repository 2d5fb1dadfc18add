-- How a segment goes on from call to call.
use Rattle.run_course.proofs.Common.{◌≡◌, ℕ, zero, suc, List, Option, Some, None, refl, sym, ap, ◌∙◌, subst, IsSome, AllByRecursion, ThreadId, Waiter, IsPlaced, AreQueued, at_node, queue_kept, all_at_node, checked_of, Setup, setting_of, Segment, State, IsWaiting, IsWithin, within_goes, Thread, World, thread_of, SchedulerState, queue_of, GoesOn, Held, KeepsPlaces, IsReached, StepReaches, StepsAsSource}

-- both hold along silent steps
pub record Along (g : Setup) (state : State) (segment : Segment) (begun : ℕ) (at : World) (waiting : List Waiter) : Type 0 where
  pub within : IsWithin g state segment begun at waiting
  pub reached : IsReached (checked_of g) g.program (setting_of g) state.source segment.thread segment.puts at

pub along : (g : Setup) (state : State) (segment : Segment) (begun : ℕ) (waiting : List Waiter) → StepsAsSource g state segment.thread → (n : ℕ) (w at : World) → GoesOn (setting_of g) n w at →
    Along g state segment begun w waiting → Along g state segment begun at waiting
along g state segment begun waiting law zero w at goes is = subst (λ (v : World). Along g state segment begun v waiting) (sym goes) is
along g state segment begun waiting law (suc n) w at goes is =
    along g state segment begun waiting law n goes.0 at goes.2 (record {
      within = within_goes g state segment begun w waiting is.within goes.0 goes.1;
      reached = subst (StepReaches (checked_of g) g.program (setting_of g) state.source segment.thread segment.puts) goes.1 (law segment.puts w is.within.formed is.reached);
    })

-- the queues keep their places, where those that wait are live
pub live_kept : (old new : Held) → KeepsPlaces old new → (t : ThreadId) (x : Waiter) → t.number ≡ x.thread → IsWaiting new.machine x → IsPlaced old.places t → IsPlaced new.places t
live_kept old new keeps t x same live placed =
    keeps t placed (some_is (thread_of new.machine t.number) live.thread (ap (λ (n : ℕ). thread_of new.machine n) same ∙ live.live)) where
      some_is : (o : Option Thread) (v : Thread) → o ≡ Some v → IsSome o
      some_is None v e = absurd (cc)
      some_is (Some u) v e = refl

pub queues_kept : (old new : Held) (scheduler : SchedulerState) (waiting : List Waiter) → KeepsPlaces old new → AllByRecursion (IsWaiting new.machine) waiting → AreQueued old.places scheduler waiting →
    AreQueued new.places scheduler waiting
queues_kept old new scheduler waiting keeps live queued = record {
  queue = λ node. queue_kept old.places new.places (queue_of scheduler node) (at_node waiting node) (IsWaiting new.machine)
      (λ t x same is placed. live_kept old new keeps t x same is placed) (all_at_node (IsWaiting new.machine) waiting node live) (queued.queue node);
}
