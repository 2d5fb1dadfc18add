-- Free and held chunks.
use Rattle.chunk_pool.proofs.Common.{◌≡◌, ◌≢◌, ℕ, zero, suc, ◌+◌, ◌<◌, ◌≤◌, ◌⊎◌, inl, inr, false, List, [], ◌∷◌, ◌++◌, get_or, refl, sym, ◌∙◌, ap, arith, nat_eq, All, Contains, Bool, true, cond, count_by, IsDistinct, cases_eq, eqb-true, ne_eqb, eq-eqb, eqb-false, All-head, All-tail, All-append, All-contains, All-from_recursion, Contains-append_cases, Contains-from_any, Pool, all_free, free_count, IsFree, IsPool}
use Rattle.std.proofs.lemmas.List.Sums.{sum_by-cons, sum_by-append}
use Rattle.std.proofs.lemmas.Map.Steps.{length-le_from_distinct_below}
use Rattle.chunk_pool.proofs.PoolLaws.{apart_from, different_by_test}

-- ---- the free chunks of both sizes

-- two lists that share no number
IsDistinct-append : (xs ys : List ℕ) → IsDistinct nat_eq xs → IsDistinct nat_eq ys → All (λ x. ¬ Contains ys x) xs → IsDistinct nat_eq (xs ++ ys)
unfolding IsDistinct
IsDistinct-append [] ys first second apart = second
IsDistinct-append (x ∷ xs) ys first second apart = (
  different_by_test (xs ++ ys) x (All-append (λ y. y ≢ x) xs ys
      (λ k d within same. eqb-false x (get_or xs k d) (All-from_recursion (λ y. nat_eq x y ≡ false) xs first.0 k d within) (sym same))
      (apart_from ys x (All-head (λ x. ¬ Contains ys x) x xs apart))),
  IsDistinct-append xs ys first.1 second (All-tail (λ x. ¬ Contains ys x) x xs apart),
)

pub free_first : (p : Pool) (id : ℕ) → IsPool p → Contains p.free id → id < p.first_count
free_first p id s free = (All-contains (λ id. (0 ≤ id) × (id < p.first_count)) p.free id s.free.within free).1

pub free_extra : (p : Pool) (id : ℕ) → IsPool p → Contains p.extra_free id → (p.first_count ≤ id) × (id < p.count)
free_extra p id s free = All-contains (λ id. (p.first_count ≤ id) × (id < p.count)) p.extra_free id s.extra_free.within free

pub all_distinct : (p : Pool) → IsPool p → IsDistinct nat_eq (all_free p)
all_distinct p s =
    IsDistinct-append p.free p.extra_free s.free.distinct s.extra_free.distinct
    (λ k d within there. absurd (omega (arith, (s.free.within k d within).1, (free_extra p (get_or p.free k d) s there).0)))

pub free_below_count : (p : Pool) (id : ℕ) → IsPool p → IsFree p id → id < p.count
free_below_count p id s free = elim (Contains-append_cases p.free p.extra_free id free) [
  | inl first ↦ omega (arith, free_first p id s first, s.shape.first_within)
  | inr extra ↦ (free_extra p id s extra).1
]

-- no more chunks are free than there are
pub free_bounded : (p : Pool) → IsPool p → free_count p ≤ p.count
free_bounded p s =
    length-le_from_distinct_below (all_free p) p.count (all_distinct p s)
    (λ q found. free_below_count p q s (Contains-from_any eqb-true q (all_free p) found))

-- ---- how often a number is free

Contains-cons_cases : (x : ℕ) (xs : List ℕ) (id : ℕ) → Contains (x ∷ xs) id → (x ≡ id) ⊎ Contains xs id
Contains-cons_cases x xs id (zero, within, at) = inl at
Contains-cons_cases x xs id (suc k, within, at) = inr (k, omega arith, at)

-- how often a number stands in two lists
pub copies-append : (xs ys : List ℕ) (id : ℕ) → count_by (λ other. nat_eq other id) (xs ++ ys) ≡ count_by (λ other. nat_eq other id) xs + count_by (λ other. nat_eq other id) ys
copies-append xs ys id = sum_by-append (λ (other : ℕ). cond (nat_eq other id) 1 0) xs ys

-- how often a number stands in a list that has one more in front
pub copies-cons : (x : ℕ) (xs : List ℕ) (id : ℕ) (same : Bool) → nat_eq x id ≡ same → count_by (λ other. nat_eq other id) (x ∷ xs) ≡ cond same 1 0 + count_by (λ other. nat_eq other id) xs
copies-cons x xs id same test =
    sum_by-cons (λ (other : ℕ). cond (nat_eq other id) 1 0) x xs ∙ ap (λ (same : Bool). cond same 1 0 + count_by (λ other. nat_eq other id) xs) test

copies_none : (xs : List ℕ) (id : ℕ) → All (λ y. y ≢ id) xs → count_by (λ other. nat_eq other id) xs ≡ 0
copies_none [] id apart = refl
copies_none (x ∷ xs) id apart =
    let differs : nat_eq x id ≡ false = ne_eqb x id (All-head (λ y. y ≢ id) x xs apart) in
    let rest = copies_none xs id (All-tail (λ y. y ≢ id) x xs apart) in
    copies-cons x xs id false differs ∙ (let none : 0 + count_by (λ other. nat_eq other id) xs ≡ 0 = omega (arith, rest) in none)

copies_some : (xs : List ℕ) (id : ℕ) → Contains xs id → 1 ≤ count_by (λ other. nat_eq other id) xs
copies_some [] id there = omega (arith, there.1)
copies_some (x ∷ xs) id there = elim (cases_eq x id) [
  | inl same ↦
      let first : count_by (λ other. nat_eq other id) (x ∷ xs) ≡ 1 + count_by (λ other. nat_eq other id) xs =
      copies-cons x xs id true (eq-eqb x id same) in
      omega arith
  | inr apart ↦ elim (Contains-cons_cases x xs id there) [
    | inl same ↦ absurd (apart same)
    | inr behind ↦
        let later : count_by (λ other. nat_eq other id) (x ∷ xs) ≡ 0 + count_by (λ other. nat_eq other id) xs =
        copies-cons x xs id false (ne_eqb x id apart) in
        omega (arith, copies_some xs id behind)
  ]
]

copies_once : (xs : List ℕ) (id : ℕ) → IsDistinct nat_eq xs → Contains xs id → count_by (λ other. nat_eq other id) xs ≡ 1
unfolding IsDistinct
copies_once [] id distinct there = absurd (omega (arith, there.1))
copies_once (x ∷ xs) id distinct there = elim (cases_eq x id) [
  | inl same ↦
      let none = copies_none xs id (λ k d within equal.
      eqb-false x (get_or xs k d) (All-from_recursion (λ y. nat_eq x y ≡ false) xs distinct.0 k d within) (same ∙ sym equal)) in
      copies-cons x xs id true (eq-eqb x id same) ∙ (let one : 1 + count_by (λ other. nat_eq other id) xs ≡ 1 = omega (arith, none) in one)
  | inr apart ↦ elim (Contains-cons_cases x xs id there) [
    | inl same ↦ absurd (apart same)
    | inr behind ↦
        copies-cons x xs id false (ne_eqb x id apart)
        ∙ (let one : 0 + count_by (λ other. nat_eq other id) xs ≡ 1 = omega (arith, copies_once xs id distinct.1 behind) in one)
  ]
]

-- how often a number stands in the free list: once where it is free, else not at all
pub copies-free : (p : Pool) (id : ℕ) → IsPool p → IsFree p id → count_by (λ other. nat_eq other id) (all_free p) ≡ 1
copies-free p id s free = copies_once (all_free p) id (all_distinct p s) free

pub copies-held : (p : Pool) (id : ℕ) → ¬ IsFree p id → count_by (λ other. nat_eq other id) (all_free p) ≡ 0
copies-held p id absent = copies_none (all_free p) id (apart_from (all_free p) id absent)

pub absent_from_copies : (p : Pool) (id : ℕ) → count_by (λ other. nat_eq other id) (all_free p) ≡ 0 → ¬ IsFree p id
absent_from_copies p id none there = omega (arith, copies_some (all_free p) id there)
