-- An operation of a function is known by its site.
use Rattle.std.specs.Prelude.{filter_map, flat_map, slice_get, slice_index_or}
use Rattle.machine_meaning.proofs.Common.{◌≡◌, ℕ, zero, suc, ◌<◌, false, List, [], ◌∷◌, ◌++◌, map, length, Option, Some, None, refl, ap, subst, arith, eqb, AllByRecursion, IsDistinct, cons_option, eqb-false, IsDistinct-head, IsDistinct-tail, FunctionTree, Op, FlatFunction, site_of, site_in, function_ops, lowered_function}

-- the sites of operations
abbrev pub sites : List Op → List ℕ
sites ops = filter_map site_of ops

all_first : (P : ℕ → Type 0) (a b : List ℕ) → AllByRecursion P (a ++ b) → AllByRecursion P a
all_first P [] b h = tt
all_first P (x ∷ a) b h = (h.0, all_first P a b h.1)

distinct_first : (a b : List ℕ) → IsDistinct eqb (a ++ b) → IsDistinct eqb a
unfolding IsDistinct
distinct_first [] b h = tt
distinct_first (x ∷ a) b h = (all_first (λ y. eqb x y ≡ false) a b h.0, distinct_first a b h.1)

pub distinct_second : (a b : List ℕ) → IsDistinct eqb (a ++ b) → IsDistinct eqb b
distinct_second [] b h = h
distinct_second (x ∷ a) b h = distinct_second a b (IsDistinct-tail eqb x (a ++ b) h)

-- the sites of one function
pub one_function : (fs : List FunctionTree) (f : ℕ) (d : FunctionTree) → f < length fs → IsDistinct eqb (flat_map (λ (f : FlatFunction). filter_map site_of f.ops) (map lowered_function fs)) → IsDistinct eqb (sites (function_ops (slice_index_or fs f d)))
one_function [] f d lt h = absurd (omega arith)
one_function (x ∷ fs) zero d lt h = distinct_first (sites (function_ops x)) (flat_map (λ (f : FlatFunction). filter_map site_of f.ops) (map lowered_function fs)) h
one_function (x ∷ fs) (suc f) d lt h = one_function fs f d (omega arith) (distinct_second (sites (function_ops x)) (flat_map (λ (f : FlatFunction). filter_map site_of f.ops) (map lowered_function fs)) h)

site_holds : (P : ℕ → Type 0) (op : Option ℕ) (rest : List ℕ) → AllByRecursion P (cons_option op rest) → AllByRecursion P rest
site_holds P None rest h = h
site_holds P (Some n) rest h = h.1

at_site : (P : ℕ → Type 0) (ops : List Op) (j s : ℕ) → AllByRecursion P (sites ops) → site_in (slice_get ops j) ≡ Some s → P s
at_site P [] j s h e = absurd cc
at_site P (op ∷ ops) zero s h e = first_site (site_of op) h e
  where
    first_site : (o : Option ℕ) → AllByRecursion P (cons_option o (sites ops)) → o ≡ Some s → P s
    first_site None h e = absurd cc
    first_site (Some n) h e = let same : n ≡ s = cc in subst P same h.0
at_site P (op ∷ ops) (suc j) s h e = at_site P ops j s (site_holds P (site_of op) (sites ops) h) e

distinct_rest : (o : Option ℕ) (rest : List ℕ) → IsDistinct eqb (cons_option o rest) → IsDistinct eqb rest
distinct_rest None rest h = h
distinct_rest (Some n) rest h = IsDistinct-tail eqb n rest h

first_differs : (o : Option ℕ) (ops : List Op) (j s : ℕ) → IsDistinct eqb (cons_option o (sites ops)) → o ≡ Some s → site_in (slice_get ops j) ≡ Some s → ⊥
first_differs None ops j s h e k = absurd cc
first_differs (Some n) ops j s h e k =
    let same : n ≡ s = cc in
    let other : eqb n s ≡ false = at_site (λ y. eqb n y ≡ false) ops j s (IsDistinct-head eqb n (sites ops) h) k in
    eqb-false n s other same

-- an operation is known by its site
pub one_place : (ops : List Op) (i j s : ℕ) → IsDistinct eqb (sites ops) → site_in (slice_get ops i) ≡ Some s → site_in (slice_get ops j) ≡ Some s → i ≡ j
one_place [] i j s h e k = absurd cc
one_place (op ∷ ops) zero zero s h e k = refl
one_place (op ∷ ops) zero (suc j) s h e k = absurd (first_differs (site_of op) ops j s h e k)
one_place (op ∷ ops) (suc i) zero s h e k = absurd (first_differs (site_of op) ops i s h k e)
one_place (op ∷ ops) (suc i) (suc j) s h e k = ap suc (one_place ops i j s (distinct_rest (site_of op) (sites ops) h) e k)
