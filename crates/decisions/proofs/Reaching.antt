-- Whether a function lies on a cycle of calls: what calls lead to from it is marked, one function more in each round.
use Rattle.decisions.proofs.Common.{◌≡◌, ℕ, zero, suc, ◌<◌, ◌≤◌, ◌⊎◌, inl, inr, Bool, true, false, List, [], ◌∷◌, length, replicate, set, refl, sym, ◌∙◌, subst, arith, ⊎_elim, decided_by, both_decided, either_decided, denied, bool_same, Below, below_decided, Some, slice_get, length-set, cases_lt, length-replicate, none-some, same_Some, Op, FlatCode, function_at, has, by_test, functions_called, Calls, IsWay, Reaches, IsOnCycle, IsLeast, cycle-within, inside, Decided}
use Rattle.cycle_break.specs.Trail.{unmarked}
use Rattle.cycle_break.specs.Trail.{is_marked}
use Rattle.call_cycles.proofs.ClosedLemmas.{none-marked}
use Rattle.call_cycles.proofs.MarkLemmas.{marks-one}
use Rattle.call_cycles.proofs.WalkLemmas.{reaches-one, reaches-more, least-cycle}
use Rattle.decisions.proofs.Decisions.{IsFirstWithout, first_without}

unmarked_none : (n : ℕ) → unmarked (replicate n false) ≡ n
unmarked_none zero = refl
unmarked_none (suc n) = omega (arith, unmarked_none n)

module _ (code : FlatCode) where
  -- ---- one call

  -- one of some operations calls function g
  record IsCalledIn (ops : List Op) (g : ℕ) : Type 0 where
    k : ℕ
    op : Op
    there : slice_get ops k ≡ Some op
    called : has g (functions_called code op) ≡ true

  called_in : (ops : List Op) (g : ℕ) → Decided (IsCalledIn ops g)
  called_in [] g = inr (λ c. absurd (none-some c.op c.there))
  called_in (op ∷ ops) g = by (bool_same (has g (functions_called code op)) true) (called_in ops g) where
    by : Decided (has g (functions_called code op) ≡ true) → Decided (IsCalledIn ops g) → Decided (IsCalledIn (op ∷ ops) g)
    by (inl here) rest = inl (record { k = zero; op = op; there = refl; called = here })
    by (inr other) (inl c) = inl (record { k = suc c.k; op = c.op; there = c.there; called = c.called })
    by (inr other) (inr none) = inr (λ c. neither c.k c.op c.there c.called) where
      neither : (k : ℕ) (o : Op) → slice_get (op ∷ ops) k ≡ Some o → has g (functions_called code o) ≡ true → ⊥
      neither zero o there called = other (subst (λ (x : Op). has g (functions_called code x) ≡ true) (sym (same_Some op o there)) called)
      neither (suc k) o there called = none (record { k = k; op = o; there = there; called = called })

  calls_decided : (f g : ℕ) → Decided (Calls code f g)
  calls_decided f g =
      decided_by (λ c. record { k = c.k; op = c.op; there = c.there; called = c.called }) (λ c. record { k = c.k; op = c.op; there = c.there; called = c.called })
      (called_in (function_at code f).ops g)

  -- ---- the rounds

  module _ (f : ℕ) where
    -- a function that isn't marked, and that f or a marked function calls
    abbrev IsNext : List Bool → ℕ → Type 0
    IsNext marks g = (is_marked marks g ≡ false) × (Calls code f g ⊎ Below (λ h. (is_marked marks h ≡ true) × Calls code h g) (length code.functions))

    next_decided : (marks : List Bool) (g : ℕ) → Decided (IsNext marks g)
    next_decided marks g =
        both_decided (bool_same (is_marked marks g) false)
        (either_decided (calls_decided f g) (below_decided (λ h. (is_marked marks h ≡ true) × Calls code h g) (λ h. both_decided (bool_same (is_marked marks h) true) (calls_decided h g)) (length code.functions)))

    -- what is marked is reached
    abbrev AreReached : List Bool → Type 0
    AreReached marks = (g : ℕ) → is_marked marks g ≡ true → Reaches code f g

    -- what is marked is reached, and no function is next
    record IsAll (marks : List Bool) : Type 0 where
      reached : AreReached marks
      over : Below (IsNext marks) (length code.functions) → ⊥

    next_reached : (marks : List Bool) (g : ℕ) → AreReached marks → IsNext marks g → Reaches code f g
    next_reached marks g reached (out, inl call) = reaches-one code f g call
    next_reached marks g reached (out, inr b) = reaches-more code f b.0 g (reached b.0 b.1.1.0) b.1.1.1

    abbrev Whole : Type 0
    Whole = (marks : List Bool) × IsAll marks

    -- one function more, where there is one, and then the rest
    round : (n : ℕ) → ((marks : List Bool) → unmarked marks ≤ n → length marks ≡ length code.functions → AreReached marks → Whole) →
        (marks : List Bool) → unmarked marks ≤ suc n → length marks ≡ length code.functions → AreReached marks → Decided (Below (IsNext marks) (length code.functions)) → Whole
    round n more marks few each reached (inr none) = (marks, record { reached = reached; over = none })
    round n more marks few each reached (inl b) =
        let one = marks-one b.0 marks [] (let lt = b.1.0 in omega (arith, lt, each)) b.1.1.0 in
        let work = one.work in
        more (set marks b.0 true) (omega (arith, work, few)) (length-set marks b.0 true ∙ each)
        (λ g h. ⊎_elim (λ was. reached g was) (λ e. subst (λ (x : ℕ). Reaches code f x) (sym e) (next_reached marks b.0 reached b.1.1)) (one.from g h))

    no_more : (marks : List Bool) → unmarked marks ≤ 0 → length marks ≡ length code.functions → AreReached marks → Decided (Below (IsNext marks) (length code.functions)) → Whole
    no_more marks few each reached (inr none) = (marks, record { reached = reached; over = none })
    no_more marks few each reached (inl b) =
        let one = marks-one b.0 marks [] (let lt = b.1.0 in omega (arith, lt, each)) b.1.1.0 in
        let work = one.work in
        absurd (omega (arith, work, few))

    all_marked : (n : ℕ) (marks : List Bool) → unmarked marks ≤ n → length marks ≡ length code.functions → AreReached marks → Whole
    all_marked zero marks few each reached = no_more marks few each reached (below_decided (IsNext marks) (next_decided marks) (length code.functions))
    all_marked (suc n) marks few each reached = round n (all_marked n) marks few each reached (below_decided (IsNext marks) (next_decided marks) (length code.functions))

    -- ---- a cycle

    module _ (m : List Bool) (all : IsAll m) (below : f < length code.functions) where
      -- what a way to f begins at is there
      way_within : (g : ℕ) (way : List ℕ) → IsWay code g way f → g < length code.functions
      way_within g [] e = subst (λ (n : ℕ). n < length code.functions) (sym e) below
      way_within g (next ∷ way) w = let call = w.0 in inside code g call.k call.op call.there

      mark : (g : ℕ) → g < length code.functions → (Calls code f g ⊎ Below (λ h. (is_marked m h ≡ true) × Calls code h g) (length code.functions)) → is_marked m g ≡ true
      mark g lt from = by_test (is_marked m g) (λ t. t) (λ out. absurd (all.over (g, (lt, (out, from)))))

      along : (g : ℕ) (way : List ℕ) → is_marked m g ≡ true → IsWay code g way f → is_marked m f ≡ true
      along g [] marked e = subst (λ (n : ℕ). is_marked m n ≡ true) e marked
      along g (next ∷ way) marked w =
          along next way (mark next (way_within next way w.1) (inr (g, (way_within g (next ∷ way) w, (marked, w.0))))) w.1

      found : IsOnCycle code f → is_marked m f ≡ true
      found cycle = along cycle.first cycle.rest (mark cycle.first (way_within cycle.first cycle.rest cycle.way) (inl cycle.call)) cycle.way

    on_cycle_decided : Decided (IsOnCycle code f)
    on_cycle_decided = by (cases_lt f (length code.functions)) where
      by : (f < length code.functions) ⊎ (length code.functions ≤ f) → Decided (IsOnCycle code f)
      by (inr past) = inr (λ cycle. let lt = cycle-within code f cycle in omega (arith, lt, past))
      by (inl below) =
          let start : List Bool = replicate (length code.functions) false in
          let r = all_marked (length code.functions) start (let e = unmarked_none (length code.functions) in omega (arith, e)) (length-replicate (length code.functions) false) (λ g h. absurd (none-marked (length code.functions) g h)) in
          decided_by (λ h. r.1.reached f h) (λ cycle. found r.0 r.1 below cycle) (bool_same (is_marked r.0 f) true)

  -- ---- the least

  pub least_or_none : ((f : ℕ) × IsLeast (IsOnCycle code) f) ⊎ ((f : ℕ) → IsOnCycle code f → ⊥)
  least_or_none = by (first_without (λ f. IsOnCycle code f → ⊥) (λ f. denied (on_cycle_decided f)) (length code.functions)) where
    here : (f : ℕ) → ((IsOnCycle code f → ⊥) → ⊥) → Decided (IsOnCycle code f) → IsOnCycle code f
    here f fails (inl cycle) = cycle
    here f fails (inr none) = absurd (fails none)

    by : ((k : ℕ) → k < length code.functions → IsOnCycle code k → ⊥) ⊎ ((k : ℕ) × ((k < length code.functions) × IsFirstWithout (λ f. IsOnCycle code f → ⊥) k)) →
        ((f : ℕ) × IsLeast (IsOnCycle code) f) ⊎ ((f : ℕ) → IsOnCycle code f → ⊥)
    by (inl none) = inr (λ f cycle. none f (cycle-within code f cycle) cycle)
    by (inr some) = let first = some.1.1 in inl (some.0, least-cycle code some.0 first.lower (here some.0 first.fails (on_cycle_decided some.0)))
