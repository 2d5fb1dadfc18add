-- The ranges of a reading's state: its clock, its nodes, the numbers of its threads, and its uses.
use Rattle.audited_logs.proofs.Common.{◌≡◌, ℕ, zero, suc, ◌+◌, ◌-◌, ◌*◌, ◌^◌, ◌<◌, ◌≤◌, ◌||◌, Bool, true, false, cond, not, List, [], ◌∷◌, ◌++◌, length, map, Option, Some, None, find, refl, subst, arith, ⊎_elim, filter, filter_map, slice_get, nat_le, AllByRecursion, range_with_len, position_or_len, list_any, cond_both, cases_lt, nat_tests, All-from_recursion, All-contains, same_key, keys_with, node_number, wakes_at, ticks_of, Rest, Blocked, is_due, event_times, IsClockBy, IsChoicePoint, Policy, wakes, any_ready, waking_times, Waiter, newcomers, IsNext, ProgramTree, Event, Segment, seen_of, All-weaker, All-append}
use Rattle.cap_word.specs.declared.calls.Block as blocks
use Rattle.c_mean.specs.World as source
use Rattle.lawful_reading.specs.State as reading
use Rattle.audited_logs.proofs.EdgeFits.{FitsRecord}
use Rattle.audited_logs.proofs.Uses.{Small, FitUses}

-- after so many instructions no clock is later
abbrev pub latest : ℕ → ℕ
latest cost = 10 ^ 15 + 2 ^ 32 * cost

-- a thread that waits: a sleep from its clock on ends in time, and node and thread came with an instruction each
pub record FitsWaiter (cost : ℕ) (w : Waiter) : Type 0 where
  pub since : w.since + 2 ^ 31 ≤ latest cost
  pub node : w.node ≤ cost + 1
  pub thread : w.thread ≤ cost

pub record FitsSegment (cost : ℕ) (segment : Segment) : Type 0 where
  pub node : segment.node ≤ cost + 1
  pub thread : segment.here.number ≤ cost
  pub small : Small segment.uses
  pub eight : length segment.uses ≡ 8
  pub exchange : FitUses segment.here.world.exchange

abbrev pub FitsIf : ℕ → Option Segment → Type 0
FitsIf cost None = Unit {0}
FitsIf cost (Some segment) = FitsSegment cost segment

-- a state in range, which a schedule of the source leads to
pub record InRange (program : ProgramTree) (caps : List ℕ) (b : reading.State) : Type 0 where
  pub clock : b.clock ≤ latest b.cost
  pub cost : b.cost ≤ 1000000000
  pub held : b.held ≤ 131072
  pub lines : b.trace.lines ≤ 1000000
  pub waiting : AllByRecursion (FitsWaiter b.cost) b.waiting
  pub keys : length b.past.keys ≤ b.cost
  pub records : AllByRecursion FitsRecord b.past.records
  pub count : length b.past.records ≤ b.cost
  pub exchange : FitUses b.source.exchange
  pub segment : FitsIf b.cost b.segment
  pub schedule : List source.Entry
  pub after : source.IsAfter program caps (source.start_world program) schedule b.source

-- ---- lists

pub all_filter : {X : Type 0} (P : X → Type 0) (test : X → Bool) (xs : List X) → AllByRecursion P xs → AllByRecursion P (filter test xs)
all_filter P test [] h = tt
all_filter P test (x ∷ xs) h =
    let rest = all_filter P test xs h.1 in
    cond_both (test x) (x ∷ filter test xs) (filter test xs) (AllByRecursion P) (λ _. (h.0, rest)) (λ _. rest)

-- what is found has what all have, and passes
pub record Found {X : Type 0} (P : X → Type 0) (test : X → Bool) (x : X) : Type 0 where
  pub holds : P x
  pub passes : test x ≡ true

found_by : {X : Type 0} (P : X → Type 0) (test : X → Bool) (y x : X) (rest : Option X) (b : Bool) → test y ≡ b → P y → cond b (Some y) rest ≡ Some x → (rest ≡ Some x → Found P test x) → Found P test x
found_by {X = X} P test y x rest true passes holds e later = let same : y ≡ x = cc in subst (λ (z : X). Found P test z) same (record { holds = holds; passes = passes })
found_by P test y x rest false passes holds e later = later e

pub find_all : {X : Type 0} (P : X → Type 0) (test : X → Bool) (xs : List X) (x : X) → AllByRecursion P xs → find test xs ≡ Some x → Found P test x
find_all {X = X} P test [] x h e = absurd (let no : ◌≡◌ {A = Option X} None (Some x) = e in cc)
find_all P test (y ∷ xs) x h e = found_by P test y x (find test xs) (test y) refl h.0 e (λ k. find_all P test xs x h.1 k)

-- ---- more cost

pub later_waiter : (old new : ℕ) → old ≤ new → (w : Waiter) → FitsWaiter old w → FitsWaiter new w
later_waiter old new more w h = record {
  since = (let s = h.since in omega (arith, s, more));
  node = (let n = h.node in omega (arith, n, more));
  thread = (let t = h.thread in omega (arith, t, more));
}

-- those that start wait at node 0 from the start on
range_below : (a n most : ℕ) → a + n ≤ most → AllByRecursion (λ k. k < most) (range_with_len a n)
range_below a zero most h = tt
range_below a (suc n) most h = (omega (arith, h), range_below (a + 1) n most (omega (arith, h)))

started_fit : (cost : ℕ) (ks : List ℕ) → AllByRecursion (λ k. k < cost + 1) ks → AllByRecursion (FitsWaiter cost) (map (λ (thread : ℕ). let w : Waiter = record { thread = thread; node = 0; since = 0 } in w) ks)
started_fit cost [] h = tt
started_fit cost (k ∷ ks) h = (record { since = omega arith; node = omega arith; thread = (let below = h.0 in omega (arith, below)) }, started_fit cost ks h.1)

pub newcomers_fit : (cost : ℕ) (old : source.World) (next : ℕ) → next ≤ cost + 1 → AllByRecursion (FitsWaiter cost) (newcomers old next)
newcomers_fit cost old next few = ⊎_elim
    (λ (more : length old.threads < next).
    started_fit cost (range_with_len (length old.threads) (next - length old.threads)) (range_below (length old.threads) (next - length old.threads) (cost + 1) (omega (arith, few, more))))
    (λ (none : next ≤ length old.threads).
    let zero_is : 0 ≡ next - length old.threads = omega (arith, none) in
    started_fit cost (range_with_len (length old.threads) (next - length old.threads)) (subst (λ (n : ℕ). AllByRecursion (λ k. k < cost + 1) (range_with_len (length old.threads) n)) zero_is tt))
    (cases_lt (length old.threads) next)

-- ---- nodes

place_within : (test : List ℕ → Bool) (keys : List (List ℕ)) → position_or_len test keys ≤ length keys
place_within test [] = omega arith
place_within test (key ∷ keys) =
    let rest = place_within test keys in
    cond_both (not (test key)) (1 + position_or_len test keys) 0 (λ (n : ℕ). n ≤ suc (length keys)) (λ _. omega (arith, rest)) (λ _. omega arith)

pub node_within : (keys : List (List ℕ)) (key : List ℕ) → node_number keys key ≤ length keys + 2
node_within keys key = let place = place_within (same_key key) keys in omega (arith, place)

one_longer : (keys : List (List ℕ)) (key : List ℕ) → length (keys ++ key ∷ []) ≡ length keys + 1
one_longer [] key = refl
one_longer (k ∷ keys) key = let rest = one_longer keys key in omega (arith, rest)

pub keys_within : (keys : List (List ℕ)) (key : List ℕ) → length (keys_with keys key) ≤ length keys + 1
keys_within keys key =
    let more = one_longer keys key in
    cond_both (list_any (same_key key) keys) keys (keys ++ key ∷ []) (λ (ks : List (List ℕ)). length ks ≤ length keys + 1) (λ _. omega arith) (λ _. omega (arith, more))

-- ---- the clock

few_ticks : (ticks : ℕ) → ticks_of ticks ≤ 2 ^ 31
few_ticks ticks = by_test (nat_le (2 ^ 31) ticks) refl where
  by_test : (b : Bool) → nat_le (2 ^ 31) ticks ≡ b → cond b 0 ticks ≤ 2 ^ 31
  by_test true e = omega arith
  by_test false e = grind (arith, nat_tests, e)

-- a time by which one wakes
abbrev WakesBy : ℕ → Option ℕ → Type 0
WakesBy most None = Unit {0}
WakesBy most (Some time) = time ≤ most

block_wakes : (since : ℕ) (block : blocks.Block) → WakesBy (since + 2 ^ 31) (wakes_at since block)
block_wakes since (blocks.Block.Sleep ticks) = let few = few_ticks ticks in omega (arith, few)
block_wakes since (blocks.Block.WaitFor channel ticks) = let few = few_ticks ticks in omega (arith, few)
block_wakes since _ = tt

rest_wakes : (since : ℕ) (rest : Option Rest) → WakesBy (since + 2 ^ 31) (wakes since rest)
rest_wakes since (Some (Blocked block waiting)) = block_wakes since block
rest_wakes since _ = tt

wakes_more : (a b : ℕ) (o : Option ℕ) → a ≤ b → WakesBy a o → WakesBy b o
wakes_more a b None h k = tt
wakes_more a b (Some time) h k = let t : time ≤ a = k in omega (arith, t, h)

mapped_within : (most : ℕ) (wake : Waiter → Option ℕ) (waiting : List Waiter) → AllByRecursion (λ (w : Waiter). WakesBy most (wake w)) waiting → AllByRecursion (λ time. time ≤ most) (filter_map wake waiting)
mapped_within most wake [] h = tt
mapped_within most wake (w ∷ waiting) h = by (wake w) h.0 (mapped_within most wake waiting h.1) where
  by : (o : Option ℕ) → WakesBy most o → AllByRecursion (λ time. time ≤ most) (filter_map wake waiting) → AllByRecursion (λ time. time ≤ most) (Rattle.std.specs.List.cons_option o (filter_map wake waiting))
  by None k rest = rest
  by (Some time) k rest = (k, rest)

events_within : (most : ℕ) (trace : Rattle.choice_rules.specs.Trace.Trace) (next : Option Event) → 10 ^ 15 ≤ most → IsNext trace next → AllByRecursion (λ time. time ≤ most) (event_times next)
events_within most trace None h is = tt
events_within most trace (Some event) h is = (let time = is.line.spells.fits.time in omega (arith, time, h), tt)

clock_by : (policy : Policy) (b : reading.State) (next : Option Event) (clock most : ℕ) (stays : Bool) → b.clock ≤ most → AllByRecursion (λ time. time ≤ most) (event_times next ++ waking_times (seen_of b)) → IsClockBy stays (seen_of b) next clock → clock ≤ most
clock_by policy b next clock most true now all is = omega (arith, now, is)
clock_by policy b next clock most false now all is =
    All-contains (λ time. time ≤ most) (event_times next ++ waking_times (seen_of b)) clock (All-from_recursion (λ time. time ≤ most) (event_times next ++ waking_times (seen_of b)) all) is.one

-- the clock of a choice point is in range
pub clock_within : (program : ProgramTree) (caps : List ℕ) (policy : Policy) (b : reading.State) (next : Option Event) (clock : ℕ) → InRange program caps b → IsChoicePoint policy (seen_of b) next clock → clock ≤ latest b.cost
clock_within program caps policy b next clock range point =
    let seen = seen_of b in
    let wake : Waiter → Option ℕ = λ w. wakes w.since (slice_get b.source.threads w.thread) in
    let waking = mapped_within (latest b.cost) wake b.waiting
    (All-weaker (FitsWaiter b.cost) (λ (w : Waiter). WakesBy (latest b.cost) (wake w)) (λ w fits. wakes_more (w.since + 2 ^ 31) (latest b.cost) (wake w) fits.since (rest_wakes w.since (slice_get b.source.threads w.thread))) b.waiting range.waiting) in
    clock_by policy b next clock (latest b.cost) (is_due next b.clock || any_ready policy seen b.clock) range.clock
    (All-append (λ time. time ≤ latest b.cost) (event_times next) (waking_times seen) (events_within (latest b.cost) b.trace next (omega arith) point.next_is) waking)
    point.clock_is
