-- The clock of a choice point, and the times at which threads wake.
use Rattle.choice_rules.proofs.Common.{◌≡◌, ℕ, ◌<◌, ◌||◌, Bool, true, false, ◌++◌, Option, Some, None, subst, arith, nat_le, nat_tests, Event, event_times, IsClockBy, IsLeastOf, waking_times, Seen, or_right, or_parts}
use Rattle.c_mean.specs.ModelledCalls.{is_past}

-- ---- the clock stays or is moved

pub clock_stays : (b : Bool) (seen : Seen) (next : Option Event) (clock : ℕ) → b ≡ true → clock ≡ seen.clock → IsClockBy b seen next clock
clock_stays true seen next clock e same = same
clock_stays false seen next clock e same = absurd (cc)

pub clock_moves : (b : Bool) (seen : Seen) (next : Option Event) (clock : ℕ) → b ≡ false → IsLeastOf (event_times next ++ waking_times seen) clock →
    IsClockBy b seen next clock
clock_moves true seen next clock e least = absurd (cc)
clock_moves false seen next clock e least = least

-- ---- one that sleeps is ready from its time on

past_at : (time clock : ℕ) → time ≡ clock → nat_le time clock ≡ true
past_at time clock is = grind (arith, nat_tests, is)

pub past_not : (time clock : ℕ) → nat_le time clock ≡ false → clock < time
past_not time clock e = grind (arith, nat_tests, e)

pub awake_by : (ready : Bool) (clock : ℕ) (o : Option ℕ) → o ≡ Some clock → (ready || is_past clock o) ≡ true
awake_by ready clock None e = absurd (cc)
awake_by ready clock (Some time) e = let is : time ≡ clock = cc in or_right ready (nat_le time clock) (past_at time clock is)

pub later_by : (ready : Bool) (clock : ℕ) (o : Option ℕ) (time : ℕ) → (ready || is_past clock o) ≡ false → o ≡ Some time → clock < time
later_by ready clock None time e is = absurd (cc)
later_by ready clock (Some t) time e is =
    let same : t ≡ time = cc in
    subst (λ (n : ℕ). clock < n) same (past_not t clock (or_parts ready (nat_le t clock) e).1)
