-- What the world tells of its threads, as the laws of the choice take it.
use Rattle.run_course.proofs.Common.{◌≡◌, ℕ, ◌&&◌, ◌||◌, Bool, false, not, nat_eq, List, [], ◌∷◌, Option, Some, refl, ap, ◌∙◌, if◌then◌else◌, list_any, cond-true, eq-eqb, ThreadId, Waiter, any_ready, any_elsewhere, IsPlaced, Setup, setting_of, State, seen_of, Event, IsWaiting, IsBetween, any_told, elsewhere_told, advanced, may_run, is_blocked_at_accept, Thread, World, Setting, thread_of, is_same_number, is_ready_thread, is_at_accept_thread, passes, passes_at, is_ready_in, is_at_accept_in, any_ready_in, any_elsewhere_in, Held}

any_alike : {X : Type 0} (f h : X → Bool) → ((x : X) → f x ≡ h x) → (xs : List X) → list_any f xs ≡ list_any h xs
any_alike f h same [] = refl
any_alike f h same (x ∷ xs) = ap (λ (b : Bool). b || list_any f xs) (same x) ∙ ap (λ (b : Bool). h x || b) (any_alike f h same xs)

passing : (test : Thread → Bool) (held : Held) (t : ThreadId) (thread : Thread) → IsPlaced held.places t → thread_of held.machine t.number ≡ Some thread → passes_at test held t ≡ test thread
passing test held t thread placed live =
    ap (λ (o : Option ℕ). if is_same_number o t.number then passes test (thread_of held.machine t.number) else false) placed
    ∙ cond-true (nat_eq t.number t.number) (passes test (thread_of held.machine t.number)) false (eq-eqb t.number t.number refl)
    ∙ ap (passes test) live

module _ (g : Setup) (state : State) (held : Held) (known : Option (Option Event)) (is : IsBetween g state known held.machine) (setting_is : held.setting ≡ setting_of g) where
  ready_thread : (thread : Thread) → is_ready_thread held.setting held.machine thread ≡ may_run (setting_of g) (advanced state.machine held.machine.clock) thread.blocked
  ready_thread thread =
      ap (λ (o : Option ℕ). if is_same_number o thread.number then false else may_run held.setting held.machine thread.blocked) (ap (λ (w : World). w.running) is.machine_is ∙ is.stands.between)
      ∙ ap (λ (s : Setting). may_run s held.machine thread.blocked) setting_is
      ∙ ap (λ (w : World). may_run (setting_of g) w thread.blocked) is.machine_is

  threads_are : held.machine.threads ≡ state.machine.threads
  threads_are = ap (λ (w : World). w.threads) is.machine_is

  live_there : (t : ThreadId) (x : Waiter) → t.number ≡ x.thread → (v : IsWaiting state.machine x) → thread_of held.machine t.number ≡ Some v.thread
  live_there t x same v = ap (λ (n : ℕ). thread_of held.machine n) same ∙ ap (λ (w : World). thread_of w x.thread) is.machine_is ∙ v.live

  pub ready_told : (t : ThreadId) (x : Waiter) → t.number ≡ x.thread → IsPlaced held.places t → (v : IsWaiting state.machine x) → is_ready_in held t ≡ may_run (setting_of g) (advanced state.machine held.machine.clock) v.thread.blocked
  ready_told t x same placed v = passing (is_ready_thread held.setting held.machine) held t v.thread placed (live_there t x same v) ∙ ready_thread v.thread

  pub accept_told : (t : ThreadId) (x : Waiter) → t.number ≡ x.thread → IsPlaced held.places t → (v : IsWaiting state.machine x) → is_at_accept_in held t ≡ is_blocked_at_accept v.thread.blocked
  accept_told t x same placed v = passing is_at_accept_thread held t v.thread placed (live_there t x same v)

  pub any_ready_told : any_ready_in held ≡ any_ready g.policy (seen_of state) held.machine.clock
  any_ready_told =
      any_alike (is_ready_thread held.setting held.machine) (λ thread. may_run (setting_of g) (advanced state.machine held.machine.clock) thread.blocked) ready_thread held.machine.threads
      ∙ ap (λ (l : List Thread). list_any (λ thread. may_run (setting_of g) (advanced state.machine held.machine.clock) thread.blocked) l) threads_are
      ∙ any_told g state held.machine.clock is.stands is.formed.counted.numbered is.threads

  pub any_elsewhere_told : any_elsewhere_in held ≡ any_elsewhere g.policy (seen_of state) held.machine.clock
  any_elsewhere_told =
      any_alike (λ thread. is_ready_thread held.setting held.machine thread && not (is_at_accept_thread thread)) (λ thread. may_run (setting_of g) (advanced state.machine held.machine.clock) thread.blocked && not (is_blocked_at_accept thread.blocked))
      (λ thread. ap (λ (b : Bool). b && not (is_at_accept_thread thread)) (ready_thread thread)) held.machine.threads
      ∙ ap (λ (l : List Thread). list_any (λ thread. may_run (setting_of g) (advanced state.machine held.machine.clock) thread.blocked && not (is_blocked_at_accept thread.blocked)) l) threads_are
      ∙ elsewhere_told g state held.machine.clock is.stands is.formed.counted.numbered is.threads
