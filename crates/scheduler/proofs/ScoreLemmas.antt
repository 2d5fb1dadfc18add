-- Products and sums of the score, which fit 128 bits.
use Rattle.scheduler.proofs.Common.{to_z, of_z, FitsSigned, ◌≡◌, ℕ, zero, suc, ◌+◌, ◌*◌, ◌^◌, ◌≤◌, ◌<◌, ℤ, pos, ◌+ℤ◌, ◌*ℤ◌, unsigned_abs, add-one, refl, arith, rules, w128, score_of_first, sum-le}
use Rattle.std.proofs.lemmas.Int.{unsigned_abs-mul, fits_signed_mul, fits_signed_from_abs, to_z-of_z}
use Rattle.std.proofs.lemmas.Nat.{mul-le}

pub strain-le : (pressure : ℕ) (predicted : ℤ) → pressure ≤ 1000 → unsigned_abs predicted ≤ 2 ^ 39 → unsigned_abs (pos pressure *ℤ predicted) ≤ 1000 * 2 ^ 39
strain-le pressure predicted p q = rw (unsigned_abs-mul (pos pressure) predicted) (mul-le pressure (unsigned_abs predicted) 1000 (2 ^ 39) p q)

pub computed_strain : (pressure : ℕ) (predicted : ℤ) → pressure ≤ 1000 → unsigned_abs predicted ≤ 2 ^ 39 →
    to_z w128 (of_z w128 (to_z w128 (of_z w128 (pos pressure)) *ℤ to_z w128 (of_z w128 predicted))) ≡ pos pressure *ℤ predicted
computed_strain pressure predicted p q =
    let n : FitsSigned w128 (pos pressure) = search rules in
    let a : FitsSigned w128 predicted = search rules in
    let m : FitsSigned w128 (pos pressure *ℤ predicted) = fits_signed_mul w128 (pos pressure) predicted 1000 (2 ^ 39) p q (omega arith) in
    rw (to_z-of_z w128 (pos pressure) n, to_z-of_z w128 predicted a, to_z-of_z w128 (pos pressure *ℤ predicted) m)

pub computed_sum : (total part : ℤ) (m : ℕ) → unsigned_abs total ≤ m * (1000 * 2 ^ 39) → m ≤ 8 → unsigned_abs part ≤ 1000 * 2 ^ 39 →
    to_z w128 (of_z w128 (total +ℤ to_z w128 (of_z w128 part))) ≡ total +ℤ part
computed_sum total part m p few q =
    let small : unsigned_abs part < 2 ^ 127 = omega arith in
    let w : FitsSigned w128 part = fits_signed_from_abs w128 part small in
    let both : unsigned_abs (total +ℤ part) < 2 ^ 127 = omega (arith, sum-le total part (m * (1000 * 2 ^ 39)) (1000 * 2 ^ 39) p q) in
    let t : FitsSigned w128 (total +ℤ part) = fits_signed_from_abs w128 (total +ℤ part) both in
    rw (to_z-of_z w128 part w, to_z-of_z w128 (total +ℤ part) t)

pub score_of_first-more : (pressure : ℕ → ℕ) (predicted : ℕ → ℤ) (n : ℕ) →
    score_of_first pressure predicted (n + 1) ≡ score_of_first pressure predicted n +ℤ (pos (pressure n) *ℤ predicted n)
unfolding score_of_first
score_of_first-more pressure predicted n = rw add-one refl

pub score_of_first-none : (pressure : ℕ → ℕ) (predicted : ℕ → ℤ) → score_of_first pressure predicted 0 ≡ pos 0
unfolding score_of_first
score_of_first-none pressure predicted = refl

-- the same pressures give the same score
pub score_of_first-same : (pressure other : ℕ → ℕ) (predicted : ℕ → ℤ) (n : ℕ) → ((resource : ℕ) → resource < n → pressure resource ≡ other resource) →
    score_of_first pressure predicted n ≡ score_of_first other predicted n
unfolding score_of_first
score_of_first-same pressure other predicted zero same = refl
score_of_first-same pressure other predicted (suc n) same =
    let before = score_of_first-same pressure other predicted n (λ resource below. same resource (omega arith)) in
    let here : pressure n ≡ other n = same n (omega arith) in
    rw (before, here) refl
