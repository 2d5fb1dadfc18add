-- The needs that were told of the threads that wait by strides, from step to step.
use Rattle.run_course.proofs.Common.{◌≡◌, ◌≢◌, ℕ, zero, suc, ◌<◌, true, false, List, [], ◌∷◌, ◌++◌, Option, Some, None, inl, inr, refl, sym, ap, ◌∙◌, subst, arith, AllByRecursion, ◌==◌, nat_tests, ThreadId, Waiter, IsPlaced, waits, Setup, setting_of, Segment, State, AreBoth, AreClients, waiter_of, IsWithin, all_both, apart_at, none_waiting, none_by, found_below, within_goes, KeepsThread, World, thread_of, KeepsThread-step, Need, StridesState, Vouches, Held, GoesOn, IsNeeded, IsNeededClient, AreNeededByStrides, by_test, eq_true}
use Rattle.stride_rule.specs.declared.clients.Client.{Client}
use Rattle.stride_rule.specs.declared.choices.StrideChoice.{StrideChoice}
use Rattle.stride_rule.specs.Clients.{IsAbsent, client_of, is_running, grown, without}
use Rattle.stride_rule.specs.State.{StrideState, AreKnown, AreOnce, after_choice, after_leaving, after_segment_for, waiting_in, waiting_of, with_client}
use Rattle.stride_rule.specs.Told.{need_of}
use Rattle.stride_rule.proofs.ClientLemmas.{all_to, all-grown, other_number}
use Rattle.stride_rule.proofs.NotingLemmas.{all_wait, waiting-none}
use Rattle.stride_rule.proofs.SearchLemmas.{Lies, client-of_lies, once-waiting}
use Rattle.stride_rule.proofs.RowLemmas.{need_of-told, need_of-others, need_of-without}
use Rattle.run_course.proofs.Needs.{vouched_by}

-- ---- lists of clients

waiting_of_all : (P : Client → Type 0) (running : Option ℕ) (cs : List Client) → AllByRecursion P cs → AllByRecursion P (waiting_in running cs)
waiting_of_all P running [] all = tt
waiting_of_all P running (c ∷ cs) all =
    by_test (is_running running c) _
    (λ runs. rw runs (waiting_of_all P running cs all.1))
    (λ rests. rw rests (all.0, waiting_of_all P running cs all.1))

-- those of a list that wait beside one that runs, without it
left_behind : (P : Client → Type 0) (number : ℕ) (cs : List Client) → AreOnce cs → AllByRecursion P (waiting_in (Some number) cs) → AllByRecursion (λ c. (c.thread.number ≢ number) × P c) (without number cs)
left_behind P number [] once all = tt
left_behind P number (c ∷ cs) once all =
    by_test (c.thread.number == number) _
    (λ same. rw same (alone cs (let e : c.thread.number ≡ number = eq_true _ _ same in subst (λ (n : ℕ). IsAbsent n cs) e once.0) (rw same at all)))
    (λ other.
    let parts : AllByRecursion P (c ∷ waiting_in (Some number) cs) = rw other at all in
    rw other (((λ e. let same : (c.thread.number == number) ≡ true = grind (arith, nat_tests) in absurd cc), parts.0), left_behind P number cs once.1 parts.1)) where
      alone : (cs : List Client) → IsAbsent number cs → AllByRecursion P (waiting_in (Some number) cs) → AllByRecursion (λ c. (c.thread.number ≢ number) × P c) cs
      alone [] none all = tt
      alone (c ∷ cs) none all =
          let other : (c.thread.number == number) ≡ false = other_number _ _ none.0 in
          let parts : AllByRecursion P (c ∷ waiting_in (Some number) cs) = rw other at all in
          ((none.0, parts.0), alone cs none.1 parts.1)

-- ---- calls of the rule

pub strides_taken : (w : World) (rule : StrideState) (choice : StrideChoice) → rule.running ≡ None → AreNeededByStrides w rule → AreNeededByStrides w (after_choice rule choice)
strides_taken w rule choice none needed =
    waiting_of_all (IsNeededClient w rule) (Some choice.thread.number) (grown choice.thread.number rule.clients)
    (all-grown choice.thread.number (IsNeededClient w rule) (λ c is. is) rule.clients
    (subst (λ (cs : List Client). AllByRecursion (IsNeededClient w rule) cs) (all_wait rule.running rule.clients none) needed))

with_one : (P : Client → Type 0) (running : Option ℕ) (cs : List Client) (new : Client) → AllByRecursion P (waiting_in running cs) → P new → AllByRecursion P (waiting_in running (cs ++ new ∷ []))
with_one P running [] new all its = waiting_of_all P running (new ∷ []) (its, tt)
with_one P running (c ∷ cs) new all its =
    by_test (is_running running c) _
    (λ runs. rw runs (with_one P running cs new (rw runs at all) its))
    (λ rests. let parts : AllByRecursion P (c ∷ waiting_in running cs) = rw rests at all in rw rests (parts.0, with_one P running cs new parts.1 its))

pub strides_started : (w : World) (rule : StrideState) (thread : ThreadId) → IsAbsent thread.number rule.clients → IsNeeded w (record { thread = thread; need = Need.Nothing }) → AreNeededByStrides w rule → AreNeededByStrides w (with_client rule thread)
strides_started w rule thread absent own needed =
    let n : ℕ = thread.number in
    let now : StrideState = with_client rule thread in
    let kept : AllByRecursion (IsNeededClient w now) (waiting_of rule) =
    all_both (λ c. c.thread.number ≢ n) (IsNeededClient w rule) (IsNeededClient w now)
    (λ c apart is. record { thread = is.thread; live = is.live; need = need_of-others rule.needs n c.thread.number Need.Nothing apart ∙ is.need })
    (waiting_of rule) (waiting_of_all (λ c. c.thread.number ≢ n) rule.running rule.clients absent) needed in
    with_one (IsNeededClient w now) rule.running rule.clients _ kept
    (record { thread = own.thread; live = own.live; need = need_of-told rule.needs n Need.Nothing ∙ own.need })

pub strides_rejoined : (w : World) (rule : StrideState) (thread : ThreadId) (need : Need) → rule.running ≡ Some thread.number → IsNeeded w (record { thread = thread; need = need }) → AreNeededByStrides w rule →
    AreNeededByStrides w (after_segment_for rule thread.number need)
strides_rejoined w rule thread need running own needed =
    subst (λ (cs : List Client). AllByRecursion (IsNeededClient w now) cs) (sym (waiting-none rule.clients))
    (each rule.clients (subst (λ (r : Option ℕ). AllByRecursion (IsNeededClient w rule) (waiting_in r rule.clients)) running needed)) where
      now : StrideState
      now = after_segment_for rule thread.number need

      each : (cs : List Client) → AllByRecursion (IsNeededClient w rule) (waiting_in (Some thread.number) cs) → AllByRecursion (IsNeededClient w now) cs
      each [] all = tt
      each (c ∷ cs) all =
          by_test (c.thread.number == thread.number) _
          (λ same.
          let e : c.thread.number ≡ thread.number = eq_true _ _ same in
          let rest : AllByRecursion (IsNeededClient w rule) (waiting_in (Some thread.number) cs) = rw same at all in (
            record {
              thread = own.thread;
              live = ap (λ (n : ℕ). thread_of w n) e ∙ own.live;
              need = ap (λ (n : ℕ). need_of n now.needs) e ∙ need_of-told rule.needs thread.number need ∙ own.need;
            },
            each cs rest,
          ))
          (λ other.
          let parts : AllByRecursion (IsNeededClient w rule) (c ∷ waiting_in (Some thread.number) cs) = rw other at all in (
            record {
              thread = parts.0.thread;
              live = parts.0.live;
              need = need_of-others rule.needs thread.number c.thread.number need (λ e. let same : (c.thread.number == thread.number) ≡ true = grind (arith, nat_tests) in absurd cc) ∙ parts.0.need;
            },
            each cs parts.1,
          ))

pub strides_left : (w : World) (rule : StrideState) (number : ℕ) → rule.running ≡ Some number → AreOnce rule.clients → AreNeededByStrides w rule → AreNeededByStrides w (after_leaving rule number)
strides_left w rule number running once needed =
    let now : StrideState = after_leaving rule number in
    subst (λ (cs : List Client). AllByRecursion (IsNeededClient w now) cs) (sym (waiting-none (without number rule.clients)))
    (all_to (λ c. (c.thread.number ≢ number) × IsNeededClient w rule c) (IsNeededClient w now)
    (λ c is. record { thread = is.1.thread; live = is.1.live; need = need_of-without rule.needs number c.thread.number is.0 ∙ is.1.need })
    (without number rule.clients)
    (left_behind (IsNeededClient w rule) number rule.clients once (subst (λ (r : Option ℕ). AllByRecursion (IsNeededClient w rule) (waiting_in r rule.clients)) running needed)))

-- ---- the world goes on

-- where each client that waits is of a thread that stays as it is
pub strides_kept : (old new : World) (rule : StrideState) → AllByRecursion (λ c. thread_of new c.thread.number ≡ thread_of old c.thread.number) (waiting_of rule) → AreNeededByStrides old rule → AreNeededByStrides new rule
strides_kept old new rule same needed =
    all_both (λ c. thread_of new c.thread.number ≡ thread_of old c.thread.number) (IsNeededClient old rule) (IsNeededClient new rule)
    (λ c stays is. record { thread = is.thread; live = stays ∙ is.live; need = is.need }) (waiting_of rule) same needed

-- no client that waits is of the thread whose segment is under way
pub strides_apart : (places : List (Option ℕ)) (strides : StridesState) (waiting : List Waiter) (number : ℕ) → waits waiting number ≡ false → AreClients places strides waiting →
    AllByRecursion (λ c. c.thread.number ≢ number) (waiting_of strides.rule)
strides_apart places strides waiting number none clients =
    apart_at (λ (c : Client). c.thread.number) number (waiting_of strides.rule) (none_by places strides.nodes _ _ (none_waiting waiting number none) (clients.each number))

everyone : (P : Client → Type 0) → ((c : Client) → P c) → (cs : List Client) → AllByRecursion P cs
everyone P is [] = tt
everyone P is (c ∷ cs) = (is c, everyone P is cs)

pub strides_same : (old new : World) (rule : StrideState) → ((number : ℕ) → thread_of new number ≡ thread_of old number) → AreNeededByStrides old rule → AreNeededByStrides new rule
strides_same old new rule same needed = strides_kept old new rule (everyone (λ c. thread_of new c.thread.number ≡ thread_of old c.thread.number) (λ c. same c.thread.number) (waiting_of rule)) needed

pub strides_step : (g : Setup) (state : State) (segment : Segment) (begun : ℕ) (here : World) (waiting : List Waiter) → IsWithin g state segment begun here waiting → (places : List (Option ℕ)) (strides : StridesState) →
    AreClients places strides waiting → AreNeededByStrides here strides.rule → (after : World) → ((number : ℕ) → here.running ≢ Some number → number ≢ here.next → thread_of after number ≡ thread_of here number) →
    AreNeededByStrides after strides.rule
strides_step g state segment begun here waiting is places strides clients needed after keeps =
    all_both (λ c. c.thread.number ≢ segment.thread) (IsNeededClient here strides.rule) (IsNeededClient after strides.rule)
    (λ c apart its. record {
      thread = its.thread;
      live = keeps c.thread.number
          (λ runs. apart (let e : Some segment.thread ≡ Some c.thread.number = sym is.running ∙ runs in cc))
          (λ next. let below : c.thread.number < here.next = found_below c.thread.number 0 here.next here.threads its.thread is.formed.counted.numbered its.live in absurd (omega arith))
          ∙ its.live;
      need = its.need;
    })
    (waiting_of strides.rule) (strides_apart places strides waiting segment.thread (is.threads.running segment.thread is.running) clients) needed

pub strides_along : (g : Setup) (state : State) (segment : Segment) (begun : ℕ) (waiting : List Waiter) (places : List (Option ℕ)) (strides : StridesState) → AreClients places strides waiting →
    (n : ℕ) (w at : World) → GoesOn (setting_of g) n w at → IsWithin g state segment begun w waiting → AreNeededByStrides w strides.rule → AreNeededByStrides at strides.rule
strides_along g state segment begun waiting places strides clients zero w at goes is needed = subst (λ (v : World). AreNeededByStrides v strides.rule) (sym goes) needed
strides_along g state segment begun waiting places strides clients (suc n) w at goes is needed =
    strides_along g state segment begun waiting places strides clients n goes.0 at goes.2 (within_goes g state segment begun w waiting is goes.0 goes.1)
    (strides_step g state segment begun w waiting is places strides clients needed goes.0
    (λ number apart old. subst (KeepsThread number w) goes.1 (KeepsThread-step (setting_of g) number w apart old)))

pub strides_picked : (g : Setup) (state : State) (segment : Segment) (begun : ℕ) (picked : World) (waiting : List Waiter) → IsWithin g state segment begun picked waiting →
    (places : List (Option ℕ)) (strides : StridesState) → AreClients places strides waiting → (old : World) → ((n : ℕ) → n ≢ segment.thread → thread_of picked n ≡ thread_of old n) →
    AreNeededByStrides old strides.rule → AreNeededByStrides picked strides.rule
strides_picked g state segment begun picked waiting is places strides clients old others needed =
    strides_kept old picked strides.rule
    (all_to (λ c. c.thread.number ≢ segment.thread) (λ c. thread_of picked c.thread.number ≡ thread_of old c.thread.number) (λ c apart. others c.thread.number apart) (waiting_of strides.rule)
    (strides_apart places strides waiting segment.thread (is.threads.running segment.thread is.running) clients))
    needed

-- ---- at a choice the world vouches for them

placed_of : (places : List (Option ℕ)) (nodes : List ℕ) (c : Client) (waiter : Option Waiter) → AreBoth places nodes (Some c) waiter → IsPlaced places c.thread
placed_of places nodes c None is = absurd is
placed_of places nodes c (Some waiter) is = is.placed

placed_in : (places : List (Option ℕ)) (nodes : List ℕ) (waiting : List Waiter) (all : List Client) → AreOnce all → ((number : ℕ) → AreBoth places nodes (client_of number all) (waiter_of number waiting)) →
    (cs : List Client) → ((c : Client) → Lies c cs → Lies c all) → AllByRecursion (λ c. IsPlaced places c.thread) cs
placed_in places nodes waiting all once each [] there = tt
placed_in places nodes waiting all once each (c ∷ cs) there =
    let its : client_of c.thread.number all ≡ Some c = client-of_lies c all once (there c (inl refl)) in (
      placed_of places nodes c (waiter_of c.thread.number waiting) (subst (λ (o : Option Client). AreBoth places nodes o (waiter_of c.thread.number waiting)) its (each c.thread.number)),
      placed_in places nodes waiting all once each cs (λ x lies. there x (inr lies)),
    )

pub strides_known : (held : Held) (strides : StridesState) (waiting : List Waiter) → held.machine.running ≡ None → AreClients held.places strides waiting → AreNeededByStrides held.machine strides.rule → AreKnown (Vouches held) strides.rule
strides_known held strides waiting rests clients needed =
    all_both (λ c. IsPlaced held.places c.thread) (IsNeededClient held.machine strides.rule) (λ c. Vouches held c.thread (need_of c.thread.number strides.rule.needs))
    (λ c placed is. vouched_by held (record { thread = c.thread; need = need_of c.thread.number strides.rule.needs }) is rests placed) (waiting_of strides.rule)
    (placed_in held.places strides.nodes waiting (waiting_of strides.rule) (once-waiting strides.rule.running strides.rule.clients clients.once) clients.each (waiting_of strides.rule) (λ c lies. lies)) needed
