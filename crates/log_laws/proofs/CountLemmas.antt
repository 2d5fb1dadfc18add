-- Where no free chunk fits a need, all large enough chunks are held.
use Rattle.log_laws.proofs.Common.{◌≡◌, ◌≢◌, ℕ, zero, suc, ◌+◌, ◌*◌, ◌<◌, ◌≤◌, Bool, true, false, nat_eq, nat_lt, cond, List, [], ◌∷◌, length, Some, None, refl, sym, ap, subst, ◌∙◌, arith, ⊎_elim, All, AllByRecursion, cases_eq, lt-ltb, leb-true, le-leb, eq-eqb, ne_eqb, cond-true, cond-false, All-contains, by_test, fits, all_free, taken_for, payload_bytes_of, IsPool, IsFree, taken_for-none, copies-cons, copies, Thread, World, first_with, roomy_below, roomy, all_held}
use Rattle.chunk_pool.proofs.FreeLaws.{copies-held}
use Rattle.machine_world.specs.Chains.{held_copies, IsPartition}

-- one where it holds
abbrev pub once : Bool → ℕ
once b = cond b 1 0

-- ---- copies of all numbers below one

abbrev copies_below : ℕ → List ℕ → ℕ
copies_below zero chunks = 0
copies_below (suc n) chunks = copies_below n chunks + copies n chunks

none_below : (n : ℕ) → copies_below n [] ≡ 0
none_below zero = refl
none_below (suc n) = let rest = none_below n in omega (arith, rest)

cons_other : (x : ℕ) (xs : List ℕ) (id : ℕ) → x ≢ id → copies id (x ∷ xs) ≡ copies id xs
cons_other x xs id ne = let first = copies-cons id x xs in let not = ap once (ne_eqb x id ne) in omega (arith, first, not)

cons_same : (x : ℕ) (xs : List ℕ) (id : ℕ) → x ≡ id → copies id (x ∷ xs) ≡ 1 + copies id xs
cons_same x xs id e = let first = copies-cons id x xs in let is = ap once (eq-eqb x id e) in omega (arith, first, is)

cons_above : (n x : ℕ) (xs : List ℕ) → n ≤ x → copies_below n (x ∷ xs) ≡ copies_below n xs
cons_above zero x xs le = refl
cons_above (suc n) x xs le =
    let rest = cons_above n x xs (omega (arith, le)) in
    let here = cons_other x xs n (λ e. omega (arith, le, e)) in
    omega (arith, rest, here)

cons_most : (n x : ℕ) (xs : List ℕ) → copies_below n (x ∷ xs) ≤ 1 + copies_below n xs
cons_most zero x xs = omega arith
cons_most (suc n) x xs = ⊎_elim
    (λ (e : x ≡ n).
    let rest = cons_above n x xs (omega (arith, e)) in
    let here = cons_same x xs n e in
    omega (arith, rest, here))
    (λ (ne : x ≢ n).
    let rest = cons_most n x xs in
    let here = cons_other x xs n ne in
    omega (arith, rest, here))
    (cases_eq x n)

below_length : (n : ℕ) (xs : List ℕ) → copies_below n xs ≤ length xs
below_length n [] = omega (arith, none_below n)
below_length n (x ∷ xs) = omega (arith, cons_most n x xs, below_length n xs)

-- ---- the same over all threads

abbrev held_below : ℕ → List Thread → ℕ
held_below zero threads = 0
held_below (suc n) threads = held_below n threads + held_copies n threads

no_thread : (n : ℕ) → held_below n [] ≡ 0
no_thread zero = refl
no_thread (suc n) = let rest = no_thread n in omega (arith, rest)

one_thread : (n : ℕ) (thread : Thread) (threads : List Thread) → held_below n (thread ∷ threads) ≡ copies_below n thread.core.chain + held_below n threads
one_thread zero thread threads = refl
one_thread (suc n) thread threads = let rest = one_thread n thread threads in omega (arith, rest)

held_most : (n : ℕ) (threads : List Thread) → held_below n threads ≤ all_held threads
held_most n [] = omega (arith, no_thread n)
held_most n (thread ∷ threads) = omega (arith, one_thread n thread threads, below_length n thread.core.chain, held_most n threads)

-- ---- where nothing is taken

-- a chunk that is large enough is held by some thread
held_once : (w : World) (need bytes id : ℕ) → IsPool w.areas.pool → IsPartition w → need ≤ bytes → taken_for w.areas.pool need ≡ None → id < w.areas.pool.count → fits w.areas.pool bytes id ≡ true → 1 ≤ held_copies id w.threads
held_once w need bytes id sound partition le none within large =
    let p = w.areas.pool in
    let not : All (λ (k : ℕ). fits p need k ≡ false) (all_free p) = (taken_for-none p need sound).0 none in
    let most : bytes ≤ payload_bytes_of p id = leb-true bytes (payload_bytes_of p id) large in
    let yes : fits p need id ≡ true = le-leb need (payload_bytes_of p id) (omega (arith, le, most)) in
    let apart : ¬ IsFree p id = λ free. (let no : fits p need id ≡ false = All-contains (λ (k : ℕ). fits p need k ≡ false) (all_free p) id not free in
    let both : true ≡ false = sym yes ∙ no in cc) in
    let zero_free : copies id (all_free p) ≡ 0 = copies-held p id apart in
    let one : held_copies id w.threads + copies id (all_free p) ≡ 1 = partition id ∙ cond-true (nat_lt id p.count) 1 0 (lt-ltb id p.count within) in
    omega (arith, zero_free, one)

roomy_held : (w : World) (need bytes n : ℕ) → IsPool w.areas.pool → IsPartition w → need ≤ bytes → taken_for w.areas.pool need ≡ None → n ≤ w.areas.pool.count → roomy_below w.areas.pool bytes n ≤ held_below n w.threads
roomy_held w need bytes zero sound partition le none within = omega arith
roomy_held w need bytes (suc n) sound partition le none within =
    let rest = roomy_held w need bytes n sound partition le none (omega (arith, within)) in
    by_test (fits w.areas.pool bytes n)
    (λ large.
    let one = held_once w need bytes n sound partition le none (omega (arith, within)) large in
    let here = ap once large in
    omega (arith, rest, one, here))
    (λ small.
    let here = ap once small in
    omega (arith, rest, here))

-- the threads hold as many chunks as are large enough
pub all_held-roomy : (w : World) (need bytes : ℕ) → IsPool w.areas.pool → IsPartition w → need ≤ bytes → taken_for w.areas.pool need ≡ None → roomy w.areas.pool bytes ≤ all_held w.threads
all_held-roomy w need bytes sound partition le none =
    omega (arith, roomy_held w need bytes w.areas.pool.count sound partition le none (omega arith), held_most w.areas.pool.count w.threads)

-- ---- how many chunks threads hold that hold at most so many each

abbrev rooms : ℕ → ℕ → ℕ
rooms zero k = 0
rooms (suc n) k = k + rooms n k

rooms_more : (m n k : ℕ) → m ≤ n → rooms m k ≤ rooms n k
rooms_more zero n k le = omega arith
rooms_more (suc m) zero k le = absurd (omega (arith, le))
rooms_more (suc m) (suc n) k le = let rest = rooms_more m n k (omega (arith, le)) in omega (arith, rest)

rooms_times : (n k : ℕ) → rooms n k ≡ n * k
rooms_times zero k = omega arith
rooms_times (suc n) k = let rest = rooms_times n k in grind (arith, rest)

each_most : (threads : List Thread) (k : ℕ) → AllByRecursion (λ (thread : Thread). length thread.core.chain ≤ k) threads → all_held threads ≤ rooms (length threads) k
each_most [] k each = omega arith
each_most (thread ∷ threads) k each = let here = each.0 in let rest = each_most threads k each.1 in omega (arith, here, rest)

-- one of them holds fewer
one_fewer : (threads : List Thread) (k number : ℕ) (thread : Thread) → AllByRecursion (λ (t : Thread). length t.core.chain ≤ k) threads → first_with number threads ≡ Some thread → length thread.core.chain + 1 ≤ k →
    all_held threads + 1 ≤ rooms (length threads) k
one_fewer [] k number thread each found fewer = absurd cc
one_fewer (t ∷ threads) k number thread each found fewer = ⊎_elim
    (λ (e : t.number ≡ number).
    let here : Some t ≡ Some thread = sym (cond-true (nat_eq t.number number) (Some t) (first_with number threads) (eq-eqb t.number number e)) ∙ found in
    let same : t ≡ thread = cc in
    let few : length t.core.chain + 1 ≤ k = subst (λ (x : Thread). length x.core.chain + 1 ≤ k) (sym same) fewer in
    let rest = each_most threads k each.1 in
    omega (arith, few, rest))
    (λ (ne : t.number ≢ number).
    let later : first_with number threads ≡ Some thread = sym (cond-false (nat_eq t.number number) (Some t) (first_with number threads) (ne_eqb t.number number ne)) ∙ found in
    let rest = one_fewer threads k number thread each.1 later fewer in
    let here = each.0 in
    omega (arith, here, rest))
    (cases_eq t.number number)

-- ---- enough chunks

-- with room for n threads of k chunks, one of them holding fewer, a need finds a chunk
pub finds_for_link : (w : World) (need bytes n k number : ℕ) (thread : Thread) → IsPool w.areas.pool → IsPartition w → need ≤ bytes → length w.threads ≤ n → n * k ≤ roomy w.areas.pool bytes →
    AllByRecursion (λ (t : Thread). length t.core.chain ≤ k) w.threads → first_with number w.threads ≡ Some thread → length thread.core.chain + 1 ≤ k → taken_for w.areas.pool need ≢ None
finds_for_link w need bytes n k number thread sound partition le few enough each found fewer none =
    let all = all_held-roomy w need bytes sound partition le none in
    let most = one_fewer w.threads k number thread each found fewer in
    let more = rooms_more (length w.threads) n k few in
    let times = rooms_times n k in
    omega (arith, all, most, more, times, enough)

-- and so it does where a thread is about to start
pub finds_for_start : (w : World) (need bytes n k : ℕ) → IsPool w.areas.pool → IsPartition w → need ≤ bytes → 1 ≤ k → length w.threads + 1 ≤ n → n * k ≤ roomy w.areas.pool bytes →
    AllByRecursion (λ (t : Thread). length t.core.chain ≤ k) w.threads → taken_for w.areas.pool need ≢ None
finds_for_start w need bytes n k sound partition le some few enough each none =
    let all = all_held-roomy w need bytes sound partition le none in
    let most = each_most w.threads k each in
    let more = rooms_more (suc (length w.threads)) n k (omega (arith, few)) in
    let times = rooms_times n k in
    omega (arith, all, most, more, times, enough, some)
