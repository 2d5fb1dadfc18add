-- The needs of the threads that wait, from step to step.
use Rattle.run_course.proofs.Common.{◌≡◌, ℕ, Bool, true, false, List, [], ◌∷◌, Option, Some, None, if◌then◌else◌, refl, sym, ◌∙◌, subst, ⊎_elim, slice_index_or, AllByRecursion, cases_eq, eq-eqb, ThreadId, Waiter, IsPlaced, IsQueue, AreQueued, at_node, Thread, World, thread_of, Need, is_same, threads_of, without_entry, SchedulerState, entries_at, AreKnown, IsTold, IsTaken, Choice, need_of_blocked, waits_for_need, IsWaitingIn, Vouches, is_same_number, passes, Held, IsNeeded, AreNeeded, All-append}
use Rattle.ready_tree.specs.declared.entries.Entry.{Entry}
use Rattle.ready_tree.specs.Needs.{is_same_need}
use Rattle.ready_tree.proofs.NeedLaws.{same_need, need_self}

-- ---- lists

pub all_map : (P Q : Entry → Type 0) (entries : List Entry) → ((entry : Entry) → P entry → Q entry) → AllByRecursion P entries → AllByRecursion Q entries
all_map P Q [] goes all = tt
all_map P Q (entry ∷ entries) goes all = (goes entry all.0, all_map P Q entries goes all.1)

without_on : (P : Entry → Type 0) (same : Bool) (first : Entry) (queue left : List Entry) → P first → AllByRecursion P queue → AllByRecursion P left →
    AllByRecursion P (if same then queue else first ∷ left)
without_on P true first queue left here all rest = all
without_on P false first queue left here all rest = (here, rest)

pub all_without : (P : Entry → Type 0) (thread : ThreadId) (entries : List Entry) → AllByRecursion P entries → AllByRecursion P (without_entry thread entries)
all_without P thread [] all = tt
all_without P thread (first ∷ queue) all = without_on P (is_same first.thread thread) first queue (without_entry thread queue) all.0 all.1 (all_without P thread queue all.1)

-- ---- a thread joins or leaves

pub needed_told : (w : World) (old new : SchedulerState) (node : ℕ) (entry : Entry) → IsTold old new node entry → IsNeeded w entry → AreNeeded w old → AreNeeded w new
needed_told w old new node entry told own needed = record {
  each = λ other. ⊎_elim
      (λ (same : other ≡ node).
      subst (λ (n : ℕ). AllByRecursion (IsNeeded w) (entries_at new n)) (sym same)
      (subst (AllByRecursion (IsNeeded w)) (sym told.queue) (All-append (IsNeeded w) (entries_at old node) (entry ∷ []) (needed.each node) (own, tt))))
      (λ apart. subst (AllByRecursion (IsNeeded w)) (sym (told.others other apart)) (needed.each other))
      (cases_eq other node);
}

pub needed_taken : (w : World) (old new : SchedulerState) (choice : Choice) → IsTaken old new choice → AreNeeded w old → AreNeeded w new
needed_taken w old new choice taken needed = record {
  each = λ other. ⊎_elim
      (λ (same : other ≡ choice.node).
      subst (λ (n : ℕ). AllByRecursion (IsNeeded w) (entries_at new n)) (sym same)
      (subst (AllByRecursion (IsNeeded w)) (sym taken.queue) (all_without (IsNeeded w) choice.thread (entries_at old choice.node) (needed.each choice.node))))
      (λ apart. subst (AllByRecursion (IsNeeded w)) (sym (taken.others other apart)) (needed.each other))
      (cases_eq other choice.node);
}

-- ---- the threads that wait stay as they are

-- where each thread that is queued is the same in both worlds
pub needed_kept : (old new : World) (scheduler : SchedulerState) → ((node : ℕ) → AllByRecursion (λ entry. thread_of new entry.thread.number ≡ thread_of old entry.thread.number) (entries_at scheduler node)) →
    AreNeeded old scheduler → AreNeeded new scheduler
needed_kept old new scheduler same needed = record { each = λ node. by_both (entries_at scheduler node) (same node) (needed.each node) } where
  by_both : (entries : List Entry) → AllByRecursion (λ entry. thread_of new entry.thread.number ≡ thread_of old entry.thread.number) entries → AllByRecursion (IsNeeded old) entries → AllByRecursion (IsNeeded new) entries
  by_both [] same all = tt
  by_both (entry ∷ entries) same all = (record { thread = all.0.thread; live = same.0 ∙ all.0.live; need = all.0.need }, by_both entries same.1 all.1)

-- worlds with the same threads
pub needed_same : (old new : World) (scheduler : SchedulerState) → ((number : ℕ) → thread_of new number ≡ thread_of old number) → AreNeeded old scheduler → AreNeeded new scheduler
needed_same old new scheduler same needed = record {
  each = λ node. all_map (IsNeeded old) (IsNeeded new) (entries_at scheduler node)
      (λ entry is. record { thread = is.thread; live = same entry.thread.number ∙ is.live; need = is.need }) (needed.each node);
}

-- ---- at a choice the world vouches for them

same_number : (o : Option ℕ) (number : ℕ) → o ≡ Some number → is_same_number o number ≡ true
same_number None number e = absurd (cc)
same_number (Some other) number e = let same : other ≡ number = cc in eq-eqb other number same

pub vouched_by : (held : Held) (entry : Entry) (is : IsNeeded held.machine entry) → held.machine.running ≡ None → IsPlaced held.places entry.thread → Vouches held entry.thread entry.need
vouched_by held entry is rests placed =
    rw (same_number (slice_index_or held.places entry.thread.slot None) entry.thread.number placed, is.live, rests, is.need) (need_self (need_of_blocked is.thread.blocked))

vouched_in : (held : Held) (entries : List Entry) (waiting : List Waiter) → held.machine.running ≡ None → IsQueue held.places (threads_of entries) waiting → AllByRecursion (IsNeeded held.machine) entries →
    AllByRecursion (λ entry. Vouches held entry.thread entry.need) entries
vouched_in held [] waiting rests queue needed = tt
vouched_in held (entry ∷ entries) [] rests queue needed = absurd queue
vouched_in held (entry ∷ entries) (waiter ∷ waiting) rests queue needed =
    (vouched_by held entry needed.0 rests queue.1.0, vouched_in held entries waiting rests queue.1.1 needed.1)

pub all_known : (held : Held) (scheduler : SchedulerState) (waiting : List Waiter) → held.machine.running ≡ None → AreQueued held.places scheduler waiting → AreNeeded held.machine scheduler →
    AreKnown (Vouches held) scheduler
all_known held scheduler waiting rests queued needed = λ node. vouched_in held (entries_at scheduler node) (at_node waiting node) rests (queued.queue node) (needed.each node)

-- ---- a need that the world tells

-- a live thread waits where no segment is under way
pub waiting_in : (held : Held) (thread : ThreadId) (t : Thread) → held.machine.running ≡ None → thread_of held.machine thread.number ≡ Some t → IsPlaced held.places thread → IsWaitingIn held thread
waiting_in held thread t rests live placed = rw (same_number (slice_index_or held.places thread.slot None) thread.number placed, live, rests) refl

told_by : (held : Held) (thread : ThreadId) (need : Need) (o : Option Thread) (found : thread_of held.machine thread.number ≡ o) →
    passes (waits_for_need held.machine need) o ≡ true → held.machine.running ≡ None → IsNeeded held.machine (record { thread = thread; need = need })
told_by held thread need None found passed rests = absurd (cc)
told_by held thread need (Some t) found passed rests =
    let same : is_same_need (need_of_blocked t.blocked) need ≡ true = rw rests at passed in
    record { thread = t; live = found; need = sym (same_need (need_of_blocked t.blocked) need same) }

only_then : (b c : Bool) → (if b then c else false) ≡ true → c ≡ true
only_then true c e = e
only_then false c e = absurd (cc)

pub needed_from : (held : Held) (thread : ThreadId) (need : Need) → held.machine.running ≡ None → Vouches held thread need → IsNeeded held.machine (record { thread = thread; need = need })
needed_from held thread need rests vouched =
    told_by held thread need (thread_of held.machine thread.number) refl
    (only_then (is_same_number (slice_index_or held.places thread.slot None) thread.number) (passes (waits_for_need held.machine need) (thread_of held.machine thread.number)) vouched) rests
