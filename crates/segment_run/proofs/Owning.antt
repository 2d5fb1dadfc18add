-- Chunks of a thread's own, told by counts and one by one.
use Rattle.segment_run.proofs.Common.{◌≡◌, ◌≢◌, ℕ, ◌+◌, ◌<◌, ◌≤◌, Bool, true, false, List, [], ◌∷◌, length, refl, sym, ap, subst, ◌∙◌, arith, cond, inl, inr, ⊎_elim, All, Contains, nat_eq, nat_lt, IsDistinct, AllByRecursion, cases_eq, cases_lt, eq-eqb, eqb-true, eqb-false, ne_eqb, lt-ltb, le-ltb, All-cons, All-head, All-tail, IsPool, IsHeld, all_free, Contains-cases, copies, Local, copies-cons, Owns, IsOwned, copies-front}
use Rattle.std.proofs.lemmas.Map.Steps.{length-le_from_distinct_below}
use Rattle.std.proofs.lemmas.Map.Views.{Contains-from_any}
use Rattle.chunk_pool.proofs.FreeLaws.{copies-free, copies-held, absent_from_copies, free_below_count}

abbrev pub one_if : Bool → ℕ
one_if b = cond b 1 0

-- ---- counts of a list

copies-there : (k x : ℕ) (xs : List ℕ) → x ≢ k → copies k (x ∷ xs) ≡ 0 + copies k xs
copies-there k x xs apart = copies-cons k x xs ∙ ap (λ (b : Bool). cond b 1 0 + copies k xs) (ne_eqb x k apart)

-- a number that is counted has what all have
pub counted : (P : ℕ → Type 0) (k : ℕ) (xs : List ℕ) → All P xs → 1 ≤ copies k xs → P k
counted P k [] all some = absurd (omega (arith, some))
counted P k (x ∷ xs) all some =
    ⊎_elim
    (λ (same : x ≡ k). subst P same (All-head P x xs all))
    (λ (apart : x ≢ k). counted P k xs (All-tail P x xs all) (omega (arith, some, copies-there k x xs apart)))
    (cases_eq x k)

-- what holds of each number that is counted holds of all
pub all_counted : (P : ℕ → Type 0) (xs : List ℕ) → ((k : ℕ) → 1 ≤ copies k xs → P k) → All P xs
all_counted P [] each = λ k d within. absurd (omega (arith, within))
all_counted P (x ∷ xs) each =
    All-cons P x xs (each x (omega (arith, copies-front x xs))) (all_counted P xs (λ k some. each k (omega (arith, copies-cons k x xs, some))))

none_differs : (x : ℕ) (ys : List ℕ) → copies x ys ≡ 0 → AllByRecursion (λ y. nat_eq x y ≡ false) ys
none_differs x [] none = tt
none_differs x (y ∷ ys) none =
    ⊎_elim
    (λ (same : y ≡ x). absurd (omega (arith, none, copies-cons x y ys, ap one_if (eq-eqb y x same))))
    (λ (apart : y ≢ x). (ne_eqb x y (λ same. apart (sym same)), none_differs x ys (omega (arith, none, copies-there x y ys apart))))
    (cases_eq y x)

differs_none : (x : ℕ) (ys : List ℕ) → AllByRecursion (λ y. nat_eq x y ≡ false) ys → copies x ys ≡ 0
differs_none x [] apart = refl
differs_none x (y ∷ ys) apart = copies-there x y ys (λ same. eqb-false x y apart.0 (sym same)) ∙ (let none : 0 + copies x ys ≡ 0 = omega (arith, differs_none x ys apart.1) in none)

pub distinct : (xs : List ℕ) → ((k : ℕ) → copies k xs ≤ 1) → IsDistinct nat_eq xs
unfolding IsDistinct
distinct [] once = tt
distinct (x ∷ xs) once = (none_differs x xs (omega (arith, once x, copies-front x xs)), distinct xs (λ k. omega (arith, once k, copies-cons k x xs)))

once_each : (k : ℕ) (xs : List ℕ) → IsDistinct nat_eq xs → copies k xs ≤ 1
unfolding IsDistinct
once_each k [] apart = omega arith
once_each k (x ∷ xs) apart =
    ⊎_elim
    (λ (same : x ≡ k). omega (arith, copies-cons k x xs, ap one_if (eq-eqb x k same), subst (λ (n : ℕ). copies n xs ≡ 0) same (differs_none x xs apart.0)))
    (λ (other : x ≢ k). omega (arith, copies-there k x xs other, once_each k xs apart.1))
    (cases_eq x k)

-- ---- a thread's chunks

pub IsHeld-owned : (l : Local) (k : ℕ) → Owns l → 1 ≤ copies k l.core.chain → IsHeld l.areas.pool k
IsHeld-owned l k owns some =
    let most = owns.once k in
    ⊎_elim
    (λ (within : k < l.areas.pool.count).
    let count : one_if (nat_lt k l.areas.pool.count) ≡ one_if true = ap one_if (lt-ltb k l.areas.pool.count within) in
    (within, absent_from_copies l.areas.pool k (omega (arith, some, most, count))))
    (λ (past : l.areas.pool.count ≤ k).
    let count : one_if (nat_lt k l.areas.pool.count) ≡ one_if false = ap one_if (le-ltb k l.areas.pool.count past) in
    absurd (omega (arith, some, most, count)))
    (cases_lt k l.areas.pool.count)

pub at_most_one : (k n : ℕ) → one_if (nat_lt k n) ≤ 1
at_most_one k n = ⊎_elim
    (λ (within : k < n). let e : one_if (nat_lt k n) ≡ one_if true = ap one_if (lt-ltb k n within) in omega (arith, e))
    (λ (past : n ≤ k). let e : one_if (nat_lt k n) ≡ one_if false = ap one_if (le-ltb k n past) in omega (arith, e))
    (cases_lt k n)

pub IsOwned-owns : (l : Local) → Owns l → IsOwned l.areas.pool l.core.chain
IsOwned-owns l owns = record {
  held = all_counted (IsHeld l.areas.pool) l.core.chain (λ k some. IsHeld-owned l k owns some);
  distinct = distinct l.core.chain (λ k. omega (arith, owns.once k, at_most_one k l.areas.pool.count));
}

pub Owns-owned : (l : Local) → IsPool l.areas.pool → IsOwned l.areas.pool l.core.chain → Owns l
Owns-owned l sound owned = record {
  once = λ k. elim (Contains-cases (all_free l.areas.pool) k) [
    | inl free ↦
        let one = copies-free l.areas.pool k sound free in
        let within : k < l.areas.pool.count = free_below_count l.areas.pool k sound free in
        let count : one_if (nat_lt k l.areas.pool.count) ≡ one_if true = ap one_if (lt-ltb k l.areas.pool.count within) in
        ⊎_elim
        (λ (none : copies k l.core.chain < 1). omega (arith, one, count, none))
        (λ (some : 1 ≤ copies k l.core.chain). absurd ((counted (IsHeld l.areas.pool) k l.core.chain owned.held some).1 free))
        (cases_lt (copies k l.core.chain) 1)
    | inr held ↦
        let none = copies-held l.areas.pool k held in
        let once = once_each k l.core.chain owned.distinct in
        ⊎_elim
        (λ (absent : copies k l.core.chain < 1). omega (arith, none, absent))
        (λ (some : 1 ≤ copies k l.core.chain).
        let within = (counted (IsHeld l.areas.pool) k l.core.chain owned.held some).0 in
        let count : one_if (nat_lt k l.areas.pool.count) ≡ one_if true = ap one_if (lt-ltb k l.areas.pool.count within) in
        omega (arith, none, once, count))
        (cases_lt (copies k l.core.chain) 1)
  ];
}

-- it has no more chunks than there are
pub few_chunks : (l : Local) → Owns l → length l.core.chain ≤ l.areas.pool.count
few_chunks l owns =
    let owned = IsOwned-owns l owns in
    length-le_from_distinct_below l.core.chain l.areas.pool.count owned.distinct (λ q found.
    let there : Contains l.core.chain q = Contains-from_any eqb-true q l.core.chain found in
    subst (λ (n : ℕ). n < l.areas.pool.count) there.2 (owned.held there.0 q there.1).0)
