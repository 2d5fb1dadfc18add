-- The next time at which something may go on, as the machine world tells it.
use Rattle.runner.proofs.Common.{◌≡◌, ℕ, zero, suc, ◌^◌, ◌<◌, ◌≤◌, Bool, true, false, cond, List, [], ◌∷◌, ◌++◌, map, Option, Some, None, refl, sym, subst, arith, ⊎_elim, All, Contains, IfSome, nat_le, if◌then◌else◌, nat_tests, Event, FitsEvent, is_due, event_times, IsLeastOf, latest, contains_tail, contains_later, contains_head, contains_none, later_block, asleep_until, Blocked, Setting, Thread, World, IsWake, earlier, time_of}
use Rattle.std.specs.List.{AllByRecursion}
use Rattle.c_mean.specs.ModelledCalls.{is_ready, wakes_at}
use Rattle.lawful_log.specs.Waking.{waking_time}
use Rattle.run_course.specs.Times.{IsTimely}

abbrev wake_in : Setting → World → Thread → Option ℕ
wake_in s w = λ thread. asleep_until s w thread.blocked

-- ---- a time that is told is still to come, and possible

asleep_by : (r : Bool) (o : Option ℕ) (time : ℕ) → cond r None o ≡ Some time → (r ≡ false) × (o ≡ Some time)
asleep_by true o time e = absurd (let no : None ≡ Some time = e in cc)
asleep_by false o time e = (refl, e)

within_by : (cost time : ℕ) (o : Option ℕ) → IfSome o (λ t. t ≤ latest cost) → o ≡ Some time → time ≤ latest cost
within_by cost time None within e = absurd (cc)
within_by cost time (Some t) within e = let same : t ≡ time = cc in subst (λ (n : ℕ). n ≤ latest cost) same within

by_blocked : (s : Setting) (w : World) (time : ℕ) (b : Option Blocked) → IfSome (waking_time b) (λ t. t ≤ latest w.cost) → asleep_until s w b ≡ Some time → (w.clock < time) × (time ≤ latest w.cost)
by_blocked s w time None within e = absurd (cc)
by_blocked s w time (Some b) within e =
    let is : (is_ready s.caps w.exchange w.clock b.since b.block ≡ false) × (wakes_at b.since b.block ≡ Some time) =
    asleep_by (is_ready s.caps w.exchange w.clock b.since b.block) (wakes_at b.since b.block) time e in
    (later_block s.caps w.exchange w.clock b.since b.block time is.0 is.1, within_by w.cost time (wakes_at b.since b.block) within is.1)

wake_within : (s : Setting) (w : World) (time : ℕ) (threads : List Thread) → AllByRecursion (λ thread. IfSome (waking_time thread.blocked) (λ t. t ≤ latest w.cost)) threads → Contains (map (wake_in s w) threads) (Some time) →
    (w.clock < time) × (time ≤ latest w.cost)
wake_within s w time [] all c = absurd (contains_none (Some time) c)
wake_within s w time (t ∷ ts) all c = ⊎_elim
    (λ (here : wake_in s w t ≡ Some time). by_blocked s w time t.blocked all.0 here)
    (λ later. wake_within s w time ts all.1 later)
    (contains_tail (wake_in s w t) (map (wake_in s w) ts) (Some time) c)

event_later : (clock time : ℕ) → nat_le time clock ≡ false → clock < time
event_later clock time e = grind (arith, nat_tests, e)

event_within : (cost time : ℕ) → time ≤ 10 ^ 15 → time ≤ latest cost
event_within cost time h = omega (arith, h)

-- the earlier of two times that are so is so
lesser : (P : ℕ → Type 0) (a b : ℕ) (test : Bool) → P a → P b → P (if test then a else b)
lesser P a b true p q = p
lesser P a b false p q = q

pub time_within : (s : Setting) (w : World) (next : Option Event) (wake : Option ℕ) (time : ℕ) → IsTimely w → IfSome next FitsEvent → is_due next w.clock ≡ false → IsWake s w wake → earlier (time_of next) wake ≡ Some time → (w.clock < time) × (time ≤ latest w.cost)
time_within s w None None time timely fits due is e = absurd (cc)
time_within s w None (Some t) time timely fits due is e =
    let same : t ≡ time = cc in
    subst (λ (n : ℕ). (w.clock < n) × (n ≤ latest w.cost)) same (wake_within s w t w.threads timely.sleepers is.0)
time_within s w (Some event) None time timely fits due is e =
    let same : event.time ≡ time = cc in
    subst (λ (n : ℕ). (w.clock < n) × (n ≤ latest w.cost)) same (event_later w.clock event.time due, event_within w.cost event.time fits.time)
time_within s w (Some event) (Some t) time timely fits due is e =
    let same : (if nat_le event.time t then event.time else t) ≡ time = cc in
    subst (λ (n : ℕ). (w.clock < n) × (n ≤ latest w.cost)) same
    (lesser (λ n. (w.clock < n) × (n ≤ latest w.cost)) event.time t (nat_le event.time t)
    (event_later w.clock event.time due, event_within w.cost event.time fits.time)
    (wake_within s w t w.threads timely.sleepers is.0))

-- ---- and the least

all_cons : (time x : ℕ) (xs : List ℕ) → time ≤ x → All (λ other. time ≤ other) xs → All (λ other. time ≤ other) (x ∷ xs)
all_cons time x xs p all zero d h = p
all_cons time x xs p all (suc k) d h = all k d (omega (arith, h))

all_below : (time lower : ℕ) (xs : List ℕ) → lower ≤ time → All (λ other. time ≤ other) xs → All (λ other. lower ≤ other) xs
all_below time lower xs h all k d b = let is = all k d b in omega (arith, h, is)

all_none : (time : ℕ) → All (λ other. time ≤ other) []
all_none time k d h = absurd (omega (arith, h))

both_by : (a t : ℕ) (xs : List ℕ) (test : Bool) → nat_le a t ≡ test → IsLeastOf xs t → IsLeastOf (a ∷ xs) (if test then a else t)
both_by a t xs true e least =
    let h : a ≤ t = grind (arith, nat_tests, e) in
    record { one = contains_head a xs a refl; least = all_cons a a xs (omega arith) (all_below t a xs h least.least) }
both_by a t xs false e least =
    let h : t ≤ a = grind (arith, nat_tests, e) in
    record { one = contains_later a xs t least.one; least = all_cons t a xs h least.least }

-- what the times that wake are, by what is told
abbrev pub AreWakes : List ℕ → Option ℕ → Type 0
AreWakes times None = times ≡ []
AreWakes times (Some t) = IsLeastOf times t

pub time_least : (next : Option Event) (wake : Option ℕ) (time : ℕ) (times : List ℕ) → AreWakes times wake → earlier (time_of next) wake ≡ Some time → IsLeastOf (event_times next ++ times) time
time_least None None time times are e = absurd (cc)
time_least None (Some t) time times are e = let same : t ≡ time = cc in subst (IsLeastOf times) same are
time_least (Some event) None time times are e =
    let same : event.time ≡ time = cc in
    subst (λ (l : List ℕ). IsLeastOf (event.time ∷ l) time) (sym are)
    (subst (IsLeastOf (event.time ∷ [])) same (record { one = contains_head event.time [] event.time refl; least = all_cons event.time event.time [] (omega arith) (all_none event.time) }))
time_least (Some event) (Some t) time times are e =
    let same : (if nat_le event.time t then event.time else t) ≡ time = cc in
    subst (IsLeastOf (event.time ∷ times)) same (both_by event.time t times (nat_le event.time t) refl are)

-- no time is told where there is no event and nobody sleeps
pub none_earlier : (next : Option Event) (wake : Option ℕ) → earlier (time_of next) wake ≡ None → (next ≡ None) × (wake ≡ None)
none_earlier None None e = (refl, refl)
none_earlier None (Some t) e = absurd (cc)
none_earlier (Some event) None e = absurd (cc)
none_earlier (Some event) (Some t) e = absurd (cc)
