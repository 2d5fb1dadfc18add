-- The needs of the threads that wait, while another goes on.
use Rattle.run_course.proofs.Common.{◌≡◌, ◌≢◌, ℕ, zero, suc, ◌<◌, List, [], ◌∷◌, Option, Some, sym, ◌∙◌, subst, arith, AllByRecursion, Waiter, IsQueue, AreQueued, at_node, all_at_node, differ_all, Setup, setting_of, Segment, State, IsWithin, found_below, within_goes, KeepsThread, World, thread_of, KeepsThread-step, threads_of, SchedulerState, entries_at, GoesOn, IsNeeded, AreNeeded}
use Rattle.ready_tree.specs.declared.entries.Entry.{Entry}
use Rattle.run_course.proofs.Needs.{needed_kept}

-- ---- who waits isn't the one that runs

apart_entries : (places : List (Option ℕ)) (entries : List Entry) (waiting : List Waiter) (number : ℕ) → IsQueue places (threads_of entries) waiting → AllByRecursion (λ w. w.thread ≢ number) waiting →
    AllByRecursion (λ entry. entry.thread.number ≢ number) entries
apart_entries places [] waiting number queue apart = tt
apart_entries places (entry ∷ entries) [] number queue apart = absurd queue
apart_entries places (entry ∷ entries) (w ∷ waiting) number queue apart =
    ((λ same. apart.0 (sym queue.0 ∙ same)), apart_entries places entries waiting number queue.1.1 apart.1)

-- ---- one step

module _ (g : Setup) (state : State) (segment : Segment) (begun : ℕ) (here : World) (waiting : List Waiter) (is : IsWithin g state segment begun here waiting)
    (places : List (Option ℕ)) (scheduler : SchedulerState) (queued : AreQueued places scheduler waiting) (needed : AreNeeded here scheduler) where
  abbrev Keeps : World → Type 0
  Keeps after = (number : ℕ) → here.running ≢ Some number → number ≢ here.next → thread_of after number ≡ thread_of here number

  kept_each : (after : World) → Keeps after → (entries : List Entry) → AllByRecursion (λ entry. entry.thread.number ≢ segment.thread) entries → AllByRecursion (IsNeeded here) entries →
      AllByRecursion (λ entry. thread_of after entry.thread.number ≡ thread_of here entry.thread.number) entries
  kept_each after keeps [] apart needed = tt
  kept_each after keeps (entry ∷ entries) apart needed = (
    keeps entry.thread.number
        (λ runs. apart.0 (let e : Some segment.thread ≡ Some entry.thread.number = sym is.running ∙ runs in cc))
        (λ next. let below : entry.thread.number < here.next = found_below entry.thread.number 0 here.next here.threads needed.0.thread is.formed.counted.numbered needed.0.live in absurd (omega arith)),
    kept_each after keeps entries apart.1 needed.1,
  )

  pub needed_step : (after : World) → Keeps after → AreNeeded after scheduler
  needed_step after keeps =
      needed_kept here after scheduler
      (λ node. kept_each after keeps (entries_at scheduler node)
      (apart_entries places (entries_at scheduler node) (at_node waiting node) segment.thread (queued.queue node)
      (all_at_node (λ w. w.thread ≢ segment.thread) waiting node (differ_all waiting segment.thread (is.threads.running segment.thread is.running))))
      (needed.each node))
      needed

-- ---- silent steps

pub needed_along : (g : Setup) (state : State) (segment : Segment) (begun : ℕ) (waiting : List Waiter) (places : List (Option ℕ)) (scheduler : SchedulerState) → AreQueued places scheduler waiting →
    (n : ℕ) (w at : World) → GoesOn (setting_of g) n w at → IsWithin g state segment begun w waiting → AreNeeded w scheduler → AreNeeded at scheduler
needed_along g state segment begun waiting places scheduler queued zero w at goes is needed = subst (λ (v : World). AreNeeded v scheduler) (sym goes) needed
needed_along g state segment begun waiting places scheduler queued (suc n) w at goes is needed =
    needed_along g state segment begun waiting places scheduler queued n goes.0 at goes.2 (within_goes g state segment begun w waiting is goes.0 goes.1)
    (needed_step g state segment begun w waiting is places scheduler queued needed goes.0
    (λ number apart old. subst (KeepsThread number w) goes.1 (KeepsThread-step (setting_of g) number w apart old)))

-- ---- a thread is chosen

others_kept : (number : ℕ) (old picked : World) → ((n : ℕ) → n ≢ number → thread_of picked n ≡ thread_of old n) → (entries : List Entry) → AllByRecursion (λ entry. entry.thread.number ≢ number) entries →
    AllByRecursion (λ entry. thread_of picked entry.thread.number ≡ thread_of old entry.thread.number) entries
others_kept number old picked others [] apart = tt
others_kept number old picked others (entry ∷ entries) apart = (others entry.thread.number apart.0, others_kept number old picked others entries apart.1)

pub needed_picked : (g : Setup) (state : State) (segment : Segment) (begun : ℕ) (picked : World) (waiting : List Waiter) → IsWithin g state segment begun picked waiting →
    (places : List (Option ℕ)) (scheduler : SchedulerState) → AreQueued places scheduler waiting → (old : World) → ((n : ℕ) → n ≢ segment.thread → thread_of picked n ≡ thread_of old n) →
    AreNeeded old scheduler → AreNeeded picked scheduler
needed_picked g state segment begun picked waiting is places scheduler queued old others needed =
    needed_kept old picked scheduler
    (λ node. others_kept segment.thread old picked others (entries_at scheduler node)
    (apart_entries places (entries_at scheduler node) (at_node waiting node) segment.thread (queued.queue node)
    (all_at_node (λ w. w.thread ≢ segment.thread) waiting node (differ_all waiting segment.thread (is.threads.running segment.thread is.running)))))
    needed
