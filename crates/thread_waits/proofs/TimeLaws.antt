-- Times that are to come and times that are past.
use Rattle.std.proofs.lemmas.Grind.{common_steps}
use Rattle.thread_waits.proofs.Common.{◌≡◌, ℕ, ◌+◌, ◌^◌, ◌<◌, ◌≤◌, ◌⊎◌, inl, inr, true, false, Option, Some, None, refl, arith, nat_eq, nat_le, nat_lt, nat_tests, Block, ticks_of, Wait, if_later, is_ready_always, is_ready_anyway, number_or, wake_of}

pub few_ticks : (n : ℕ) → ticks_of n < 2 ^ 31
few_ticks n = grind (arith, common_steps)

-- a test by what it tells
lt_cases : (a b : ℕ) → ((nat_lt a b ≡ true) × (a < b)) ⊎ ((nat_lt a b ≡ false) × (b ≤ a))
lt_cases a b = grind (arith, nat_tests)

pub le_yes : (a b : ℕ) → a ≤ b → nat_le a b ≡ true
le_yes a b h = grind (arith, nat_tests)

pub le_no : (a b : ℕ) → b < a → nat_le a b ≡ false
le_no a b h = grind (arith, nat_tests)

pub eq_same : (a : ℕ) → nat_eq a a ≡ true
eq_same a = grind (arith, nat_tests)

-- the time, where it is still to come
later_by : (clock time : ℕ) → ((nat_lt clock time ≡ true) × (clock < time)) ⊎ ((nat_lt clock time ≡ false) × (time ≤ clock)) → clock < time → if_later clock (Some time) ≡ Some time
later_by clock time (inl y) h = rw y.0 refl
later_by clock time (inr n) h = let k : time ≤ clock = n.1 in absurd (omega arith)

pub later_yes : (clock time : ℕ) → clock < time → if_later clock (Some time) ≡ Some time
later_yes clock time h = later_by clock time (lt_cases clock time) h

none_by : (clock time : ℕ) → ((nat_lt clock time ≡ true) × (clock < time)) ⊎ ((nat_lt clock time ≡ false) × (time ≤ clock)) → time ≤ clock → if_later clock (Some time) ≡ None
none_by clock time (inl y) h = let k : clock < time = y.1 in absurd (omega arith)
none_by clock time (inr n) h = rw n.0 refl

pub later_no : (clock time : ℕ) → time ≤ clock → if_later clock (Some time) ≡ None
later_no clock time h = none_by clock time (lt_cases clock time) h

pub none_or_some : (o : Option ℕ) → (o ≡ None) ⊎ ((n : ℕ) × (o ≡ Some n))
none_or_some None = inl refl
none_or_some (Some n) = inr (n, refl)

-- a number that is past no clock
pub later_same : (clock : ℕ) (o : Option ℕ) → clock < number_or o → if_later clock o ≡ o
later_same clock None h = refl
later_same clock (Some time) h = later_yes clock time h

-- the number of a time, where it is still to come
pub later_number : (clock : ℕ) (o : Option ℕ) → clock < number_or o → number_or o ≡ number_or (if_later clock o)
later_number clock o h = rw (later_same clock o h) refl

pub past_number : (clock : ℕ) (o : Option ℕ) → number_or o ≤ clock → number_or None ≡ number_or (if_later clock o)
past_number clock None h = refl
past_number clock (Some time) h = rw (later_no clock time h) refl

-- ---- who is ready by the clock

always_block : (clock since : ℕ) (block : Block) → is_ready_always (Some (Wait.At block since)) ≡ true → is_ready_anyway clock (Some (Wait.At block since)) ≡ true
always_block clock since Block.Yield e = refl
always_block clock since _ e = absurd (cc)

pub always_ready : (clock : ℕ) (wait : Option Wait) → is_ready_always wait ≡ true → is_ready_anyway clock wait ≡ true
always_ready clock None e = absurd (cc)
always_ready clock (Some Wait.Fresh) e = refl
always_ready clock (Some (Wait.At block since)) e = always_block clock since block e

same_time : (time other : ℕ) → Some time ≡ Some other → time ≡ other
same_time time other e = cc

past_block : (clock time since : ℕ) (block : Block) → wake_of (Some (Wait.At block since)) ≡ Some time → time ≤ clock → is_ready_anyway clock (Some (Wait.At block since)) ≡ true
past_block clock time since (Block.Sleep ticks) e h = let same : since + ticks_of ticks ≡ time = same_time (since + ticks_of ticks) time e in le_yes (since + ticks_of ticks) clock (omega arith)
past_block clock time since (Block.WaitFor channel ticks) e h = let same : since + ticks_of ticks ≡ time = same_time (since + ticks_of ticks) time e in le_yes (since + ticks_of ticks) clock (omega arith)
past_block clock time since _ e h = absurd (cc)

-- whose time has come
pub past_ready : (clock time : ℕ) (wait : Option Wait) → wake_of wait ≡ Some time → time ≤ clock → is_ready_anyway clock wait ≡ true
past_ready clock time (Some (Wait.At block since)) e h = past_block clock time since block e h
past_ready clock time _ e h = absurd (cc)

unready_block : (clock since : ℕ) (block : Block) → is_ready_always (Some (Wait.At block since)) ≡ false → clock < number_or (wake_of (Some (Wait.At block since))) →
    is_ready_anyway clock (Some (Wait.At block since)) ≡ false
unready_block clock since (Block.Sleep ticks) e h = le_no (since + ticks_of ticks) clock h
unready_block clock since Block.Yield e h = absurd (cc)
unready_block clock since (Block.WaitFor channel ticks) e h = le_no (since + ticks_of ticks) clock h
unready_block clock since _ e h = refl

-- whose time hasn't
pub unready : (clock : ℕ) (wait : Option Wait) → is_ready_always wait ≡ false → clock < number_or (wake_of wait) → is_ready_anyway clock wait ≡ false
unready clock None e h = refl
unready clock (Some Wait.Fresh) e h = absurd (cc)
unready clock (Some (Wait.At block since)) e h = unready_block clock since block e h
