-- A thread that leaves its queue, and the first that passes a test.
use Rattle.scheduler.proofs.Common.{◌≡◌, ℕ, zero, suc, ◌<◌, ◌≤◌, nat_lt, Bool, true, false, cond, Option, Some, None, find, List, [], ◌∷◌, length, position, refl, sym, ap, ◌∙◌, subst, arith, slice_set, slice_index_or, if◌then◌else◌, nat_tests, AllByRecursion, position_or_len, ThreadId, Entry, entries_of, place_at, is_of, without, without_entry, is_same, threads_of, passes_at, by_test, some_is}
use Rattle.std.proofs.lemmas.List.Quantifiers.{position-Some}
use Rattle.std.proofs.lemmas.List.Sums.{fails_before_first, position_or_len_is}

-- ---- places

no_at : (place len : ℕ) (b : Bool) → nat_lt place len ≡ b → cond b (Some place) None ≡ None → len ≤ place
no_at place len true e h = absurd cc
no_at place len false e h = grind (arith, nat_tests)

no_place : (place len : ℕ) → cond (nat_lt place len) (Some place) None ≡ None → len ≤ place
no_place place len h = no_at _ _ _ refl h

-- where there is no first, none passes
none_passes : {X : Type 0} (test : X → Bool) (xs : List X) (d : X) → position test xs ≡ None → (k : ℕ) → k < length xs → test (slice_index_or xs k d) ≡ false
none_passes test xs d none k below =
    let past : length xs ≤ position_or_len test xs = no_place (position_or_len test xs) (length xs) none in
    fails_before_first test xs k d (omega arith)

first_is : {X : Type 0} (test : X → Bool) (xs : List X) (d : X) (place : ℕ) → place < length xs → ((k : ℕ) → k < place → test (slice_index_or xs k d) ≡ false) →
    test (slice_index_or xs place d) ≡ true → position test xs ≡ Some place
first_is test xs d place there before here =
    let e : position_or_len test xs ≡ place = position_or_len_is test xs place d (omega arith) before (λ h. here) in
    ap (λ (k : ℕ). cond (nat_lt k (length xs)) (Some k) None) e ∙ some_is place (length xs) there

pub place_below : {X : Type 0} (test : X → Bool) (xs : List X) (d : X) (place : ℕ) → position test xs ≡ Some place → place < length xs
place_below test xs d place first = (position-Some test xs place d first).0

-- ---- a thread leaves

emptied_at : (thread : ThreadId) (places : List (Option Entry)) (place : ℕ) → is_of thread (place_at places place) ≡ true → ((k : ℕ) → k < place → is_of thread (place_at places k) ≡ false) →
    entries_of (slice_set places place None) ≡ without_entry thread (entries_of places)
emptied_at thread (Some entry ∷ places) zero here before = let same : is_same entry.thread thread ≡ true = here in rw same refl
emptied_at thread (None ∷ places) (suc place) here before = emptied_at thread places place here (λ k h. before (suc k) (omega arith))
emptied_at thread (Some entry ∷ places) (suc place) here before =
    let other : is_same entry.thread thread ≡ false = before 0 (omega arith) in
    rw other (ap (λ (l : List Entry). entry ∷ l) (emptied_at thread places place here (λ k h. before (suc k) (omega arith))))
emptied_at thread _ _ here before = absurd (cc)

absent_at : (thread : ThreadId) (places : List (Option Entry)) → ((k : ℕ) → k < length places → is_of thread (place_at places k) ≡ false) → entries_of places ≡ without_entry thread (entries_of places)
absent_at thread [] none = refl
absent_at thread (None ∷ places) none = absent_at thread places (λ k h. none (suc k) (omega arith))
absent_at thread (Some entry ∷ places) none =
    let other : is_same entry.thread thread ≡ false = none 0 (omega arith) in
    rw other (ap (λ (l : List Entry). entry ∷ l) (absent_at thread places (λ k h. none (suc k) (omega arith))))

pub emptied : (thread : ThreadId) (places : List (Option Entry)) (place : ℕ) → position (is_of thread) places ≡ Some place → entries_of (slice_set places place None) ≡ without_entry thread (entries_of places)
emptied thread places place first = let at = position-Some (is_of thread) places place None first in emptied_at thread places place at.1 at.2

pub absent : (thread : ThreadId) (places : List (Option Entry)) → position (is_of thread) places ≡ None → entries_of places ≡ without_entry thread (entries_of places)
absent thread places none = absent_at thread places (none_passes (is_of thread) places None none)

-- threads without their needs leave in the same way
without_on : (same : Bool) (first : Entry) (queue left : List Entry) (rest : List ThreadId) → threads_of left ≡ rest →
    threads_of (if same then queue else first ∷ left) ≡ (if same then threads_of queue else first.thread ∷ rest)
without_on true first queue left rest e = refl
without_on false first queue left rest e = ap (λ (l : List ThreadId). first.thread ∷ l) e

pub without_threads : (thread : ThreadId) (entries : List Entry) → threads_of (without_entry thread entries) ≡ without thread (threads_of entries)
without_threads thread [] = refl
without_threads thread (first ∷ queue) = without_on (is_same first.thread thread) first queue (without_entry thread queue) (without thread (threads_of queue)) (without_threads thread queue)

-- ---- the first that passes

found_at : (test : ThreadId → Bool) (places : List (Option Entry)) (place : ℕ) (entry : Entry) → place_at places place ≡ Some entry → test entry.thread ≡ true →
    ((k : ℕ) → k < place → passes_at test (place_at places k) ≡ false) → find test (threads_of (entries_of places)) ≡ Some entry.thread
found_at test (Some first ∷ places) zero entry at here before =
    let same : first ≡ entry = cc in
    let passes : test first.thread ≡ true = ap (λ (e : Entry). test e.thread) same ∙ here in
    rw passes (ap (λ (e : Entry). Some e.thread) same)
found_at test (None ∷ places) (suc place) entry at here before = found_at test places place entry at here (λ k h. before (suc k) (omega arith))
found_at test (Some first ∷ places) (suc place) entry at here before =
    let fails : test first.thread ≡ false = before 0 (omega arith) in
    rw fails (found_at test places place entry at here (λ k h. before (suc k) (omega arith)))
found_at test _ _ entry at here before = absurd (cc)

none_at : (test : ThreadId → Bool) (places : List (Option Entry)) → ((k : ℕ) → k < length places → passes_at test (place_at places k) ≡ false) → find test (threads_of (entries_of places)) ≡ None
none_at test [] none = refl
none_at test (None ∷ places) none = none_at test places (λ k h. none (suc k) (omega arith))
none_at test (Some first ∷ places) none =
    let fails : test first.thread ≡ false = none 0 (omega arith) in
    rw fails (none_at test places (λ k h. none (suc k) (omega arith)))

passes_there : (test : ThreadId → Bool) (place : Option Entry) (entry : Entry) → place ≡ Some entry → passes_at test place ≡ true → test entry.thread ≡ true
passes_there test None entry at here = absurd (cc)
passes_there test (Some first) entry at here = let same : first ≡ entry = cc in subst (λ (e : Entry). test e.thread ≡ true) same here

pub found_first : (test : ThreadId → Bool) (places : List (Option Entry)) (place : ℕ) (entry : Entry) → position (passes_at test) places ≡ Some place → place_at places place ≡ Some entry →
    find test (threads_of (entries_of places)) ≡ Some entry.thread
found_first test places place entry first at =
    let is = position-Some (passes_at test) places place None first in
    found_at test places place entry at (passes_there test (place_at places place) entry at is.1) is.2

pub found_none : (test : ThreadId → Bool) (places : List (Option Entry)) → position (passes_at test) places ≡ None → find test (threads_of (entries_of places)) ≡ None
found_none test places none = none_at test places (none_passes (passes_at test) places None none)

-- the place of who passes isn't empty
pub no_empty : (test : ThreadId → Bool) (places : List (Option Entry)) (place : ℕ) → position (passes_at test) places ≡ Some place → place_at places place ≡ None → ⊥
no_empty test places place first empty =
    let is = position-Some (passes_at test) places place None first in
    let false_is : false ≡ true = ap (passes_at test) (sym empty) ∙ is.1 in
    absurd (cc)

-- a test of threads takes the first place of its thread
same_thread : (thread other : ThreadId) → is_same other thread ≡ true → other ≡ thread
same_thread thread other same = grind (arith, nat_tests)

no_other : (test : ThreadId → Bool) (thread : ThreadId) (place : Option Entry) → test thread ≡ true → passes_at test place ≡ false → is_of thread place ≡ false
no_other test thread None passes fails = refl
no_other test thread (Some entry) passes fails =
    by_test (is_same entry.thread thread) (is_of thread (Some entry) ≡ false)
    (λ same. let is : entry.thread ≡ thread = same_thread thread entry.thread same in let e : test entry.thread ≡ true = ap test is ∙ passes in absurd (cc))
    (λ other. other)

is_own : (place : Option Entry) (entry : Entry) → place ≡ Some entry → is_of entry.thread place ≡ true
is_own None entry at = absurd (cc)
is_own (Some first) entry at = let same : first ≡ entry = cc in rw same (grind (arith, nat_tests))

pub own_place : (test : ThreadId → Bool) (places : List (Option Entry)) (place : ℕ) (entry : Entry) → position (passes_at test) places ≡ Some place → place_at places place ≡ Some entry →
    position (is_of entry.thread) places ≡ Some place
own_place test places place entry first at =
    let is = position-Some (passes_at test) places place None first in
    let passes : test entry.thread ≡ true = passes_there test (place_at places place) entry at is.1 in
    first_is (is_of entry.thread) places None place is.0 (λ k h. no_other test entry.thread (place_at places k) passes (is.2 k h)) (is_own (place_at places place) entry at)

own_by : (test : ThreadId → Bool) (places : List (Option Entry)) (place : ℕ) (thread : ThreadId) (o : Option Entry) → place_at places place ≡ o → position (passes_at test) places ≡ Some place →
    find test (threads_of (entries_of places)) ≡ Some thread → position (is_of thread) places ≡ Some place
own_by test places place thread None at first found = absurd (no_empty test places place first at)
own_by test places place thread (Some entry) at first found =
    let other : find test (threads_of (entries_of places)) ≡ Some entry.thread = found_first test places place entry first at in
    let same : entry.thread ≡ thread = cc in
    subst (λ (t : ThreadId). position (is_of t) places ≡ Some place) same (own_place test places place entry first at)

-- where the first thread that passes and the first place that does were found
pub found_place : (test : ThreadId → Bool) (places : List (Option Entry)) (place : ℕ) (thread : ThreadId) → position (passes_at test) places ≡ Some place →
    find test (threads_of (entries_of places)) ≡ Some thread → position (is_of thread) places ≡ Some place
found_place test places place thread first found = own_by test places place thread (place_at places place) refl first found

-- ---- needs say who passes

-- two tests that agree at each place find the same
pub same_first : {X : Type 0} (one other : X → Bool) (xs : List X) → AllByRecursion (λ x. one x ≡ other x) xs → position_or_len one xs ≡ position_or_len other xs
same_first one other [] all = refl
same_first one other (x ∷ xs) all = rw (all.0, same_first one other xs all.1) refl
