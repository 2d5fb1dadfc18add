-- Who waits at a channel or for a resource is ready.
use Rattle.thread_waits.proofs.Common.{◌≡◌, ◌≢◌, ℕ, zero, suc, ◌+◌, ◌<◌, ◌≤◌, ◌⊎◌, inl, inr, Bool, true, false, cond, List, [], ◌∷◌, length, All, Option, Some, None, refl, ap, arith, count_by, nat_eq, nat_le, slice_index_or, list_any, nat_tests, get_or-le-sum_by, list_any_none, list_any-from_Any, All-from_get_or, All-get_or, Block, Exchange, channel_of, holds_some, use_of, cap_of, Wait, IsLeast, IsWaitInRangeIf, IsTreeOf, is_at_channel, amount_of, no_number, is_at_message, is_taker, is_taking, is_unused, HasPlace}
use Rattle.thread_waits.proofs.AnyLaws.{any_from_count}
use Rattle.thread_waits.proofs.GrownLaws.{one_if, holds_at}
use Rattle.thread_waits.proofs.TimeLaws.{eq_same, le_yes, le_no}
use Rattle.thread_waits.proofs.WakeLaws.{place_of, no_lesser}

eq_true : (a b : ℕ) → nat_eq a b ≡ true → a ≡ b
eq_true a b e = grind (arith, nat_tests)

eq_cases : (a b : ℕ) → (nat_eq a b ≡ true) ⊎ (nat_eq a b ≡ false)
eq_cases a b = grind (arith, nat_tests)

-- ---- channels

block_at_message : (x : Exchange) (channel : ℕ) → holds_some (channel_of x channel) ≡ true → (since : ℕ) (block : Block) →
    is_at_channel channel (Some (Wait.At block since)) ≡ true → is_at_message x (Some (Wait.At block since)) ≡ true
block_at_message x channel h since (Block.Wait other) e = rw (eq_true other channel e) h
block_at_message x channel h since (Block.WaitFor other ticks) e = rw (eq_true other channel e) h
block_at_message x channel h since _ e = absurd (cc)

at_message : (x : Exchange) (channel : ℕ) → holds_some (channel_of x channel) ≡ true → (wait : Option Wait) → is_at_channel channel wait ≡ true → is_at_message x wait ≡ true
at_message x channel h (Some (Wait.At block since)) e = block_at_message x channel h since block e
at_message x channel h _ e = absurd (cc)

-- where somebody waits at a channel that holds a message, somebody is ready
pub some_at_message : (x : Exchange) (places : List (Option Wait)) (channel : ℕ) → holds_some (channel_of x channel) ≡ true → 0 < count_by (is_at_channel channel) places → list_any (is_at_message x) places ≡ true
some_at_message x places channel h c = any_from_count (is_at_channel channel) (is_at_message x) (at_message x channel h) places c

-- no channel has both
abbrev pub IsIdle : Exchange → List (Option Wait) → ℕ → Type 0
IsIdle x places channel = (count_by (is_at_channel channel) places ≡ 0) ⊎ (holds_some (channel_of x channel) ≡ false)

one_counted : (p : Option Wait → Bool) (places : List (Option Wait)) (k : ℕ) → k < length places → p (slice_index_or places k None) ≡ true → count_by p places ≡ 0 → ⊥
one_counted p places k h e c =
    let a : one_if (p (slice_index_or places k None)) ≤ count_by p places = get_or-le-sum_by (λ wait. cond (p wait) 1 0) places k None h in
    let b : one_if (p (slice_index_or places k None)) ≡ 1 = ap one_if e in omega arith

idle_wait : (x : Exchange) (places : List (Option Wait)) (k channel : ℕ) (wait : Option Wait) → k < length places → slice_index_or places k None ≡ wait → is_at_channel channel wait ≡ true → IsIdle x places channel →
    holds_some (channel_of x channel) ≡ false
idle_wait x places k channel wait h e there (inl none) = absurd (one_counted (is_at_channel channel) places k h (rw e there) none)
idle_wait x places k channel wait h e there (inr idle) = idle

idle_block : (x : Exchange) (places : List (Option Wait)) → ((channel : ℕ) → channel < 64 → IsIdle x places channel) → (k since : ℕ) (block : Block) → k < length places →
    IsWaitInRangeIf (Some (Wait.At block since)) → slice_index_or places k None ≡ Some (Wait.At block since) → is_at_message x (Some (Wait.At block since)) ≡ false
idle_block x places idle k since (Block.Wait channel) h r e = idle_wait x places k channel (Some (Wait.At (Block.Wait channel) since)) h e (eq_same channel) (idle channel r.0)
idle_block x places idle k since (Block.WaitFor channel ticks) h r e = idle_wait x places k channel (Some (Wait.At (Block.WaitFor channel ticks) since)) h e (eq_same channel) (idle channel r.0)
idle_block x places idle k since _ h r e = refl

idle_at : (x : Exchange) (places : List (Option Wait)) → ((channel : ℕ) → channel < 64 → IsIdle x places channel) → (k : ℕ) (wait : Option Wait) → k < length places →
    IsWaitInRangeIf wait → slice_index_or places k None ≡ wait → is_at_message x wait ≡ false
idle_at x places idle k (Some (Wait.At block since)) h r e = idle_block x places idle k since block h r e
idle_at x places idle k _ h r e = refl

-- where no channel has both, nobody at a channel is ready
pub none_at_message : (x : Exchange) (places : List (Option Wait)) → All IsWaitInRangeIf places → ((channel : ℕ) → channel < 64 → IsIdle x places channel) → list_any (is_at_message x) places ≡ false
none_at_message x places ranges idle =
    list_any_none (is_at_message x) places (All-from_get_or (λ wait. is_at_message x wait ≡ false) places None (λ k h.
    idle_at x places idle k (slice_index_or places k None) h (holds_at IsWaitInRangeIf tt places ranges k) refl))

-- ---- resources

pub get_or_any : (xs : List (Option Wait)) (k : ℕ) (d e : Option Wait) → k < length xs → slice_index_or xs k d ≡ slice_index_or xs k e
get_or_any [] k d e h = absurd (omega arith)
get_or_any (x ∷ xs) zero d e h = refl
get_or_any (x ∷ xs) (suc k) d e h = get_or_any xs k d e (omega arith)

if_some : (b : Bool) (taken amount : ℕ) → b ≡ false → (cond b (Some taken) None) ≡ Some amount → ⊥
if_some true taken amount e f = absurd (cc)
if_some false taken amount e f = absurd (cc)

if_same : (b : Bool) (taken amount : ℕ) → b ≡ true → (cond b (Some taken) None) ≡ Some amount → taken ≡ amount
if_same true taken amount e f = cc
if_same false taken amount e f = absurd (cc)

taking_by : (caps : List ℕ) (x : Exchange) (r amount since resource taken : ℕ) → amount_of r (Some (Wait.At (Block.Take resource taken) since)) ≡ Some amount → nat_le (use_of x r + amount) (cap_of caps r) ≡ true →
    (nat_eq resource r ≡ true) ⊎ (nat_eq resource r ≡ false) → is_taking caps x (Some (Wait.At (Block.Take resource taken) since)) ≡ true
taking_by caps x r amount since resource taken e h (inl same) = rw (eq_true resource r same, if_same (nat_eq resource r) taken amount same e) h
taking_by caps x r amount since resource taken e h (inr other) = absurd (if_some (nat_eq resource r) taken amount other e)

block_taking : (caps : List ℕ) (x : Exchange) (r amount since : ℕ) (block : Block) → amount_of r (Some (Wait.At block since)) ≡ Some amount → nat_le (use_of x r + amount) (cap_of caps r) ≡ true →
    is_taking caps x (Some (Wait.At block since)) ≡ true
block_taking caps x r amount since (Block.Take resource taken) e h = taking_by caps x r amount since resource taken e h (eq_cases resource r)
block_taking caps x r amount since _ e h = absurd (cc)

taking : (caps : List ℕ) (x : Exchange) (r amount : ℕ) (wait : Option Wait) → amount_of r wait ≡ Some amount → nat_le (use_of x r + amount) (cap_of caps r) ≡ true → is_taking caps x wait ≡ true
taking caps x r amount (Some (Wait.At block since)) e h = block_taking caps x r amount since block e h
taking caps x r amount _ e h = absurd (cc)

pub default_same : (places : List (Option Wait)) (k : ℕ) → k < length places → slice_index_or places k (slice_index_or places k None) ≡ slice_index_or places k None
default_same places k h = get_or_any places k (slice_index_or places k None) None h

-- where the least amount that waits for a resource is unused, somebody is ready
pub some_taking : (caps : List ℕ) (x : Exchange) (r : ℕ) (places : List (Option Wait)) (leaves : List ℕ) (least : ℕ) → IsTreeOf (amount_of r) places leaves → IsLeast leaves least →
    least ≢ no_number → use_of x r + least ≤ cap_of caps r → list_any (is_taking caps x) places ≡ true
some_taking caps x r places leaves least t l d h =
    let p : HasPlace (amount_of r) places least = place_of (amount_of r) refl places leaves t least l d in
    list_any-from_Any (is_taking caps x) places
    (p.place, slice_index_or places p.place None, p.there, default_same places p.place p.there, taking caps x r least (slice_index_or places p.place None) p.number (le_yes (use_of x r + least) (cap_of caps r) h))

-- where it isn't, nobody who waits for this resource is
untaken : (caps : List ℕ) (x : Exchange) (r : ℕ) (o : Option ℕ) → ((n : ℕ) → o ≡ Some n → cap_of caps r < use_of x r + n) → is_unused caps x r o ≡ false
untaken caps x r None h = refl
untaken caps x r (Some n) h = le_no (use_of x r + n) (cap_of caps r) (h n refl)

pub none_taking_one : (caps : List ℕ) (x : Exchange) (r : ℕ) (places : List (Option Wait)) (leaves : List ℕ) (least : ℕ) → IsTreeOf (amount_of r) places leaves → IsLeast leaves least →
    cap_of caps r < use_of x r + least → All (λ wait. is_taker caps x r wait ≡ false) places
none_taking_one caps x r places leaves least t l h = All-from_get_or (λ wait. is_taker caps x r wait ≡ false) places None (λ k there.
    untaken caps x r (amount_of r (slice_index_or places k None)) (λ n e. let a : least ≤ n = no_lesser (amount_of r) refl places leaves t least l k there n e in omega arith))

-- where it is so of each resource, nobody who waits for one is ready
free_block : (caps : List ℕ) (x : Exchange) (since : ℕ) (block : Block) → IsWaitInRangeIf (Some (Wait.At block since)) → ((r : ℕ) → 1 ≤ r → r < 8 → is_taker caps x r (Some (Wait.At block since)) ≡ false) →
    is_taking caps x (Some (Wait.At block since)) ≡ false
free_block caps x since (Block.Take resource amount) r h = rw (eq_same resource) at (h resource r.0.0 r.0.1)
free_block caps x since _ r h = refl

free_wait : (caps : List ℕ) (x : Exchange) (wait : Option Wait) → IsWaitInRangeIf wait → ((r : ℕ) → 1 ≤ r → r < 8 → is_taker caps x r wait ≡ false) → is_taking caps x wait ≡ false
free_wait caps x (Some (Wait.At block since)) r h = free_block caps x since block r h
free_wait caps x _ r h = refl

pub none_taking : (caps : List ℕ) (x : Exchange) (places : List (Option Wait)) → All IsWaitInRangeIf places → ((r : ℕ) → 1 ≤ r → r < 8 → All (λ wait. is_taker caps x r wait ≡ false) places) →
    list_any (is_taking caps x) places ≡ false
none_taking caps x places ranges h =
    list_any_none (is_taking caps x) places (All-from_get_or (λ wait. is_taking caps x wait ≡ false) places None (λ k there.
    free_wait caps x (slice_index_or places k None) (holds_at IsWaitInRangeIf tt places ranges k) (λ r some most. All-get_or (λ wait. is_taker caps x r wait ≡ false) places k None there (h r some most))))
