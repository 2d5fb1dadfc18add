-- The clock of a choice point at which nothing goes on: the least time there is, which is to come.
use Rattle.log_laws.proofs.Common.{◌≡◌, ℕ, zero, suc, ◌+◌, ◌≤◌, ◌⊎◌, inl, inr, false, List, [], ◌∷◌, ◌++◌, Option, Some, None, refl, sym, ap, ◌∙◌, arith, subst, ⊎_elim, Contains, nat_le, AllByRecursion, nat_tests, All-from_recursion, Exchange, Event, event_times, IsLeastOf, is_ready, any_ready, waking_times, Setup, State, seen_of, goes_on, contains_head, contains_later, gives_above, later_block, All-weaker, or_parts}
use Rattle.c_mean.specs.World.{Rest, Blocked as Blocks}
use Rattle.choice_rules.specs.Readiness as rules
use Rattle.lawful_log.proofs.Wakes.{all_false}

-- ---- the least of some times

pub record Least (times : List ℕ) : Type 0 where
  pub time : ℕ
  pub one : Contains times time
  pub least : AllByRecursion (λ other. time ≤ other) times

all_above : (low time : ℕ) (times : List ℕ) → low ≤ time → AllByRecursion (λ other. time ≤ other) times → AllByRecursion (λ other. low ≤ other) times
all_above low time [] h all = tt
all_above low time (x ∷ xs) h all = ((let above = all.0 in omega (arith, h, above)), all_above low time xs h all.1)

le_or : (a b : ℕ) → (a ≤ b) ⊎ (b ≤ a)
le_or zero b = inl (omega arith)
le_or (suc a) zero = inr (omega arith)
le_or (suc a) (suc b) = ⊎_elim (λ (h : a ≤ b). inl (omega (arith, h))) (λ (h : b ≤ a). inr (omega (arith, h))) (le_or a b)

least_by : (x : ℕ) (xs : List ℕ) (rest : Least xs) → (x ≤ rest.time) ⊎ (rest.time ≤ x) → Least (x ∷ xs)
least_by x xs rest (inl h) = record { time = x; one = contains_head x xs x refl; least = ((omega arith), all_above x rest.time xs h rest.least) }
least_by x xs rest (inr h) = record { time = rest.time; one = contains_later x xs rest.time rest.one; least = (h, rest.least) }

least_on : (x : ℕ) (xs : List ℕ) → Least (x ∷ xs)
least_on x [] = record { time = x; one = contains_head x [] x refl; least = ((omega arith), tt) }
least_on x (y ∷ ys) = let rest = least_on y ys in least_by x (y ∷ ys) rest (le_or x rest.time)

pub is_least : (times : List ℕ) (l : Least times) → IsLeastOf times l.time
is_least times l = record { one = l.one; least = All-from_recursion (λ other. l.time ≤ other) times l.least }

-- ---- the times are to come

later_rest : (caps : List ℕ) (x : Exchange) (clock since : ℕ) (rest : Option Rest) (t : ℕ) → rules.is_ready_at caps x clock since rest ≡ false → rules.wakes since rest ≡ Some t → clock ≤ t
later_rest caps x clock since (Some (Blocks block waiting)) t e w = let later = later_block caps x clock since block t e w in omega (arith, later)
later_rest caps x clock since _ t e w = absurd (let no : None ≡ Some t = w in cc)

module _ (g : Setup) (state : State) (clock : ℕ) where
  sleepers_later : any_ready g.policy (seen_of state) clock ≡ false → AllByRecursion (λ t. clock ≤ t) (waking_times (seen_of state))
  sleepers_later none = gives_above (λ w. rules.wakes w.since (rules.rest_of (seen_of state) w.thread)) clock state.waiting
      (All-weaker (λ w. is_ready g.policy (seen_of state) clock w ≡ false)
      (λ w. (t : ℕ) → rules.wakes w.since (rules.rest_of (seen_of state) w.thread) ≡ Some t → clock ≤ t)
      (λ w e t wakes. later_rest g.policy.caps state.source.exchange clock w.since (rules.rest_of (seen_of state) w.thread) t e wakes)
      state.waiting (all_false (is_ready g.policy (seen_of state) clock) state.waiting none))

  not_due_later : (event : Event) → nat_le event.time clock ≡ false → clock ≤ event.time
  not_due_later event e = grind (arith, nat_tests, e)

  times_later : (next : Option Event) → goes_on g state next clock ≡ false → AllByRecursion (λ t. clock ≤ t) (event_times next ++ waking_times (seen_of state))
  times_later None e = sleepers_later e
  times_later (Some event) e =
      let parts : (nat_le event.time clock ≡ false) × (any_ready g.policy (seen_of state) clock ≡ false) = or_parts (nat_le event.time clock)
      (any_ready g.policy (seen_of state) clock) e in
      (not_due_later event parts.0, sleepers_later parts.1)

  above_in : (times : List ℕ) (l : Least times) → AllByRecursion (λ t. clock ≤ t) times → clock ≤ l.time
  above_in times l all = subst (λ (t : ℕ). clock ≤ t) l.one.2 (All-from_recursion (λ t. clock ≤ t) times all l.one.0 l.time l.one.1)

  -- there is no time, or a least one, which is to come
  pub data Goes (next : Option Event) : Type 0 where
    Nothing : event_times next ≡ [] → waking_times (seen_of state) ≡ [] → Goes next
    At : (time : ℕ) → clock ≤ time → IsLeastOf (event_times next ++ waking_times (seen_of state)) time → Goes next

  goes_by : (next : Option Event) (events wakes : List ℕ) → event_times next ≡ events → waking_times (seen_of state) ≡ wakes →
      AllByRecursion (λ t. clock ≤ t) (events ++ wakes) → Goes next
  goes_by next [] [] e w all = Nothing e w
  goes_by next [] (x ∷ xs) e w all =
      let l = least_on x xs in
      At l.time (above_in (x ∷ xs) l all) (subst (λ (times : List ℕ). IsLeastOf times l.time) (ap (λ (a : List ℕ). a ++ (x ∷ xs)) (sym e) ∙ ap (λ (b : List ℕ). event_times next ++ b) (sym w)) (is_least (x ∷ xs) l))
  goes_by next (y ∷ ys) wakes e w all =
      let l = least_on y (ys ++ wakes) in
      At l.time (above_in (y ∷ (ys ++ wakes)) l all) (subst (λ (times : List ℕ). IsLeastOf times l.time) (ap (λ (a : List ℕ). a ++ wakes) (sym e) ∙ ap (λ (b : List ℕ). event_times next ++ b) (sym w)) (is_least (y ∷ (ys ++ wakes)) l))

  pub goes : (next : Option Event) → goes_on g state next clock ≡ false → Goes next
  goes next stuck = goes_by next (event_times next) (waking_times (seen_of state)) refl refl (times_later next stuck)
