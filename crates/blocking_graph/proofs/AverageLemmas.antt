-- Averages, as the code computes them and as lists.
use Rattle.blocking_graph.proofs.Common.{to_z, of_z, FitsSigned, rules, ◌^◌, ◌≡◌, ℕ, suc, ◌≤◌, ◌<◌, ℤ, pos, negsuc, ◌+ℤ◌, ◌-ℤ◌, ◌*ℤ◌, unsigned_abs, List, [], ◌∷◌, map, length, get_or, refl, arith, div-le_self, to_z-of_z, int_div_euclid, w128, floor_div, next_average, next_averages}

-- the quotient whose remainder is not negative is the one that is rounded down
pub floor_div_is : (z : ℤ) (d : ℕ) → int_div_euclid z (pos d) ≡ floor_div z d
floor_div_is (pos n) d = refl
floor_div_is (negsuc n) d = refl

pub floor_div-abs : (z : ℤ) (d : ℕ) → unsigned_abs (floor_div z d) ≤ unsigned_abs z
floor_div-abs (pos n) d = div-le_self n d
floor_div-abs (negsuc n) d = omega (arith, div-le_self n d)

pub ruleset quotients = (floor_div_is, floor_div-abs)

-- the next average from its eighth, however that is named
pub next_average_from : (average sample eighth : ℤ) → eighth ≡ floor_div average 8 →
    next_average average sample ≡ (average -ℤ eighth) +ℤ (pos 32 *ℤ sample)
next_average_from average sample eighth e = rw e refl

-- the steps of the code, each of which fits 128 bits
pub computed_average : (average eighth sample : ℤ) → unsigned_abs average ≤ 2 ^ 48 → unsigned_abs eighth ≤ 2 ^ 48 → unsigned_abs sample ≤ 2 ^ 63 →
    to_z w128 (of_z w128 (to_z w128 (of_z w128 (to_z w128 (of_z w128 average) -ℤ to_z w128 (of_z w128 eighth)))
    +ℤ to_z w128 (of_z w128 (pos 32 *ℤ to_z w128 (of_z w128 sample)))))
    ≡ (average -ℤ eighth) +ℤ (pos 32 *ℤ sample)
computed_average average eighth sample p q r =
    let a : FitsSigned w128 average = search rules in
    let b : FitsSigned w128 eighth = search rules in
    let s : FitsSigned w128 sample = search rules in
    let d : FitsSigned w128 (average -ℤ eighth) = search rules in
    let m : FitsSigned w128 (pos 32 *ℤ sample) = search rules in
    let t : FitsSigned w128 ((average -ℤ eighth) +ℤ (pos 32 *ℤ sample)) = search rules in
    rw (
      to_z-of_z w128 average a,
      to_z-of_z w128 eighth b,
      to_z-of_z w128 sample s,
      to_z-of_z w128 (average -ℤ eighth) d,
      to_z-of_z w128 (pos 32 *ℤ sample) m,
      to_z-of_z w128 ((average -ℤ eighth) +ℤ (pos 32 *ℤ sample)) t,
    )

pub map_from_each : (f : ℤ → ℤ) (xs ys : List ℤ) → length ys ≡ length xs →
    ((k : ℕ) → k < length xs → get_or ys k (pos 0) ≡ f (get_or xs k (pos 0))) → ys ≡ map f xs
map_from_each f [] [] same each = refl
map_from_each f (x ∷ xs) (y ∷ ys) same each =
    let first : y ≡ f x = each 0 (omega arith) in
    let rest : ys ≡ map f xs = map_from_each f xs ys (omega arith) (λ k h. each (suc k) (omega arith)) in
    cc
map_from_each f _ _ same each = absurd (omega arith)

pub next_from_each : (averages samples next : List ℤ) → length next ≡ length averages → length samples ≡ length averages →
    ((k : ℕ) → k < length averages → get_or next k (pos 0) ≡ next_average (get_or averages k (pos 0)) (get_or samples k (pos 0))) →
    next ≡ next_averages averages samples
next_from_each [] samples [] same as_long each = refl
next_from_each (a ∷ averages) (s ∷ samples) (n ∷ next) same as_long each =
    let first : n ≡ next_average a s = each 0 (omega arith) in
    let rest : next ≡ next_averages averages samples = next_from_each averages samples next (omega arith) (omega arith) (λ k h. each (suc k) (omega arith)) in
    cc
next_from_each _ _ _ same as_long each = absurd (omega arith)
