-- The clock of a choice point: when it stays, where it goes on to, and that something then goes on.
use Rattle.lawful_log.proofs.Common.{◌≡◌, ℕ, zero, suc, ◌<◌, ◌≤◌, ◌⊎◌, inl, inr, Bool, true, false, List, [], ◌∷◌, ◌++◌, length, Option, Some, None, refl, sym, ap, ◌∙◌, arith, subst, cond, ⊎_elim, Contains, filter_map, nat_le, nat_eq, slice_index_or, AllByRecursion, list_any, cons_option, nat_tests, Block, Exchange, blocking_row, wake_of, wakes_at, Event, event_times, IsLeastOf, IsClockBy, is_ready, any_ready, waking_times, either, Setup, State, seen_of, may_run, asleep_until, Blocked, World, Setting, goes_on, IsClockOf, waking_time, or_right, or_left}
use Rattle.c_mean.specs.ModelledCalls as table
use Rattle.c_mean.specs.World.{Rest, Fresh, Blocked as Blocks}
use Rattle.c_mean.proofs.CallLemmas.{waits_alone}
use Rattle.choice_rules.specs.Readiness as rules
use Rattle.choice_rules.proofs.Clocks.{awake_by, clock_moves, clock_stays, later_by}

-- ---- elements of lists

at : {X : Type 0} (x : X) (xs : List X) (y : X) (k : ℕ) → k < length (x ∷ xs) → slice_index_or (x ∷ xs) k y ≡ y → (x ≡ y) ⊎ Contains xs y
at x xs y zero h e = inl e
at x xs y (suc k) h e = inr (k, (omega arith), e)

pub contains_tail : {X : Type 0} (x : X) (xs : List X) (y : X) → Contains (x ∷ xs) y → (x ≡ y) ⊎ Contains xs y
contains_tail x xs y c = at x xs y c.0 c.1 c.2

pub contains_later : {X : Type 0} (x : X) (xs : List X) (y : X) → Contains xs y → Contains (x ∷ xs) y
contains_later x xs y c = (suc c.0, omega (arith, c.1), c.2)

pub contains_head : {X : Type 0} (x : X) (xs : List X) (y : X) → x ≡ y → Contains (x ∷ xs) y
contains_head x xs y e = (0, omega arith, e)

pub contains_none : {X : Type 0} (y : X) → Contains [] y → ⊥
contains_none y c = omega (arith, c.1)

-- ---- what a partial function gives of a list

module _ {X : Type 0} (h : X → Option ℕ) where
  any_on : (test : X → Bool) (time : ℕ) (x : X) (xs : List X) (o : Option ℕ) → h x ≡ o → (o ≡ Some time → test x ≡ true) → Contains (cons_option o (filter_map h xs)) time →
      (Contains (filter_map h xs) time → list_any test xs ≡ true) → list_any test (x ∷ xs) ≡ true
  any_on test time x xs None e passes c later = or_right (test x) (list_any test xs) (later c)
  any_on test time x xs (Some t) e passes c later = ⊎_elim
      (λ (same : t ≡ time). or_left (test x) (list_any test xs) (passes (ap Some same)))
      (λ rest. or_right (test x) (list_any test xs) (later rest))
      (contains_tail t (filter_map h xs) time c)

  gives_any : (test : X → Bool) (time : ℕ) → ((x : X) → h x ≡ Some time → test x ≡ true) → (xs : List X) → Contains (filter_map h xs) time → list_any test xs ≡ true
  gives_any test time passes [] c = absurd (contains_none time c)
  gives_any test time passes (x ∷ xs) c = any_on test time x xs (h x) refl (passes x) c (gives_any test time passes xs)

  -- an element that gives a time
  given_on : (time : ℕ) (x : X) (xs : List X) (o : Option ℕ) → Contains (filter_map h xs) time → Contains (cons_option o (filter_map h xs)) time
  given_on time x xs None c = c
  given_on time x xs (Some t) c = contains_later t (filter_map h xs) time c

  given_here : (time : ℕ) (xs : List X) (o : Option ℕ) → o ≡ Some time → Contains (cons_option o (filter_map h xs)) time
  given_here time xs None e = absurd (cc)
  given_here time xs (Some t) e = contains_head t (filter_map h xs) time (cc)

  pub gives_contains : (time : ℕ) (test : X → Bool) → ((x : X) → test x ≡ true → h x ≡ Some time) → (xs : List X) → list_any test xs ≡ true → Contains (filter_map h xs) time
  gives_contains time test gives [] e = absurd (cc)
  gives_contains time test gives (x ∷ xs) e = either (test x) (list_any test xs) e _
      (λ here. given_here time xs (h x) (gives x here))
      (λ later. given_on time x xs (h x) (gives_contains time test gives xs later))

  none_on : (x : X) (xs : List X) (o : Option ℕ) → o ≡ None → filter_map h xs ≡ [] → cons_option o (filter_map h xs) ≡ []
  none_on x xs None e rest = rest
  none_on x xs (Some t) e rest = absurd (cc)

  pub gives_none : (xs : List X) → AllByRecursion (λ x. h x ≡ None) xs → filter_map h xs ≡ []
  gives_none [] all = refl
  gives_none (x ∷ xs) all = none_on x xs (h x) all.0 (gives_none xs all.1)

  above_on : (time : ℕ) (x : X) (xs : List X) (o : Option ℕ) → ((t : ℕ) → o ≡ Some t → time ≤ t) → AllByRecursion (λ t. time ≤ t) (filter_map h xs) → AllByRecursion (λ t. time ≤ t) (cons_option o (filter_map h xs))
  above_on time x xs None above rest = rest
  above_on time x xs (Some t) above rest = (above t refl, rest)

  pub gives_above : (time : ℕ) (xs : List X) → AllByRecursion (λ x. (t : ℕ) → h x ≡ Some t → time ≤ t) xs → AllByRecursion (λ t. time ≤ t) (filter_map h xs)
  gives_above time [] all = tt
  gives_above time (x ∷ xs) all = above_on time x xs (h x) all.0 (gives_above time xs all.1)

-- ---- a thread that wakes is ready

awake_block : (caps : List ℕ) (x : Exchange) (clock since : ℕ) (block : Block) → wakes_at since block ≡ Some clock → table.is_ready caps x clock since block ≡ true
awake_block caps x clock since block e = awake_by (blocking_row caps x block).ready clock (wake_of since (blocking_row caps x block).wait) (waits_alone caps x since block ∙ e)

awake_ready : (caps : List ℕ) (x : Exchange) (clock since : ℕ) (rest : Option Rest) → rules.wakes since rest ≡ Some clock → rules.is_ready_at caps x clock since rest ≡ true
awake_ready caps x clock since (Some (Fresh function arguments)) e = refl
awake_ready caps x clock since (Some (Blocks block waiting)) e = awake_block caps x clock since block e
awake_ready caps x clock since _ e = absurd (cc)

ready_at_wake : (g : Setup) (state : State) (clock : ℕ) → Contains (waking_times (seen_of state)) clock → any_ready g.policy (seen_of state) clock ≡ true
ready_at_wake g state clock c =
    gives_any (λ w. rules.wakes w.since (rules.rest_of (seen_of state) w.thread)) (is_ready g.policy (seen_of state) clock) clock
    (λ w e. awake_ready g.policy.caps state.source.exchange clock w.since (rules.rest_of (seen_of state) w.thread) e) state.waiting c

le_self : (n : ℕ) → nat_le n n ≡ true
le_self n = grind (arith, nat_tests)

-- where the clock has moved something goes on
pub moved_goes_on : (g : Setup) (state : State) (next : Option Event) (clock : ℕ) → Contains (event_times next ++ waking_times (seen_of state)) clock → goes_on g state next clock ≡ true
moved_goes_on g state None clock c = ready_at_wake g state clock c
moved_goes_on g state (Some event) clock c = ⊎_elim
    (λ (same : event.time ≡ clock). or_left (nat_le event.time clock) (any_ready g.policy (seen_of state) clock) (subst (λ (n : ℕ). nat_le event.time n ≡ true) same (le_self event.time)))
    (λ later. or_right (nat_le event.time clock) (any_ready g.policy (seen_of state) clock) (ready_at_wake g state clock later))
    (contains_tail event.time (waking_times (seen_of state)) clock c)

-- ---- the clock of a choice point

pub clock_by : (g : Setup) (state : State) (next : Option Event) (clock : ℕ) → IsClockOf g state (Some next) clock → goes_on g state next clock ≡ true →
    IsClockBy (goes_on g state next state.machine.clock) (seen_of state) next clock
clock_by g state next clock (inl same) goes = clock_stays _ (seen_of state) next clock (subst (λ (n : ℕ). goes_on g state next n ≡ true) same goes) same
clock_by g state next clock (inr moved) goes = clock_moves _ (seen_of state) next clock moved.stuck moved.least

-- where nothing goes on the clock hasn't moved
pub not_moved : (g : Setup) (state : State) (next : Option Event) (clock : ℕ) → IsClockOf g state (Some next) clock → goes_on g state next clock ≡ false → clock ≡ state.machine.clock
not_moved g state next clock (inl same) stuck = same
not_moved g state next clock (inr moved) stuck =
    let goes = moved_goes_on g state next clock moved.least.one in absurd (let no : true ≡ false = sym goes ∙ stuck in cc)

pub moves_to : (g : Setup) (state : State) (next : Option Event) (clock time : ℕ) → IsClockOf g state (Some next) clock → goes_on g state next clock ≡ false →
    IsLeastOf (event_times next ++ waking_times (seen_of state)) time → IsClockOf g state (Some next) time
moves_to g state next clock time is stuck least =
    inr (record { stuck = subst (λ (n : ℕ). goes_on g state next n ≡ false) (not_moved g state next clock is stuck) stuck; least = least })

-- ---- the earliest that wakes

-- one that isn't ready wakes later
pub later_block : (caps : List ℕ) (x : Exchange) (clock since : ℕ) (block : Block) (time : ℕ) → table.is_ready caps x clock since block ≡ false → wakes_at since block ≡ Some time → clock < time
later_block caps x clock since block time e is =
    later_by (blocking_row caps x block).ready clock (wake_of since (blocking_row caps x block).wait) time e (waits_alone caps x since block ∙ is)

pub asleep_is : (s : Setting) (w : World) (b : Option Blocked) → may_run s w b ≡ false → asleep_until s w b ≡ waking_time b
asleep_is s w None e = absurd (cc)
asleep_is s w (Some b) e = ap (λ (r : Bool). cond r None (wakes_at b.since b.block)) e

abbrev pub is_time : ℕ → Option ℕ → Bool
is_time time None = false
is_time time (Some t) = nat_eq t time
