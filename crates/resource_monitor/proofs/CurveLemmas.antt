-- Each curve in its range is a pressure.
use Rattle.std.proofs.lemmas.Bool.Decides.{nat_tests}
use Rattle.std.proofs.Common.{◌≡◌, ℕ, zero, suc, Bool, true, false, ◌+◌, ◌-◌, ◌*◌, ◌/◌, ◌≤◌, ◌<◌, nat_le, if◌then◌else◌, List, [], ◌∷◌, length, refl, sym, ap, subst, ◌∙◌, arith}
use Rattle.std.proofs.Math.Nat.{div-le_of_le-mul, mul-div-le, mul-div_cancel_left, div-div-eq-div-mul}
use Rattle.std.proofs.lemmas.Nat.{le-div, mul-le}
use Rattle.resource_monitor.specs.declared.curves.Curve.{Curve}
use Rattle.resource_monitor.specs.declared.curves.Curve.TheVariants.{Linear, Knee, Steps}
use Rattle.resource_monitor.specs.Pressure.{curve_value, pressure, reached, RiseAbove, IsInRange, IsReading, IsPressureCurve}

-- a greater number has no smaller quotient
pub div-mono : (m n k : ℕ) → 0 < k → m ≤ n → m / k ≤ n / k
div-mono m n k some most = le-div (m / k) n k some (let e : k * (m / k) ≤ m = mul-div-le m k in grind arith)

-- ---- the knee

-- how far the use is past the knee, in thousandths of the cap
parts-whole : (rest knee cap : ℕ) → (rest + knee) * cap ≡ rest * cap + knee * cap
parts-whole rest knee cap = grind arith

past-most : (knee used cap : ℕ) → knee ≤ 999 → used ≤ cap → 1000 * used - knee * cap ≤ (1000 - knee) * cap
past-most knee used cap most h =
    let e : (1000 - knee) + knee ≡ 1000 = omega arith in
    let whole : 1000 * cap ≡ (1000 - knee) * cap + knee * cap =
    subst (λ (n : ℕ). n * cap ≡ (1000 - knee) * cap + knee * cap) e (parts-whole (1000 - knee) knee cap) in
    omega arith

rest-pos : (knee cap : ℕ) → knee ≤ 999 → 1 ≤ cap → 0 < (1000 - knee) * cap
rest-pos knee cap h some = let e : 1 * 1 ≤ (1000 - knee) * cap = mul-le 1 1 (1000 - knee) cap (omega arith) some in omega arith

knee-bounded : (b : Bool) (knee used cap : ℕ) → knee ≤ 999 → IsReading used cap → (if b then 0 else 1000 * (1000 * used - knee * cap) / ((1000 - knee) * cap)) ≤ 1000
knee-bounded true knee used cap most at = omega arith
knee-bounded false knee used cap most at = div-le_of_le-mul ((1000 - knee) * cap) (let h : 1000 * used - knee * cap ≤ (1000 - knee) * cap = past-most knee used cap most at.within in omega arith)

under-knee : (b : Bool) (n : ℕ) → b ≡ true → (if b then 0 else n) ≡ 0
under-knee true n e = refl
under-knee false n e = absurd (let no : false ≡ true = e in cc)

knee-rises : (a b : Bool) (knee less used cap : ℕ) → nat_le (1000 * less) (knee * cap) ≡ a → nat_le (1000 * used) (knee * cap) ≡ b → knee ≤ 999 → IsReading used cap →
    less ≤ used →
    (if a then 0 else 1000 * (1000 * less - knee * cap) / ((1000 - knee) * cap)) ≤ (if b then 0 else 1000 * (1000 * used - knee * cap) / ((1000 - knee) * cap))
knee-rises true b knee less used cap p q most at h = omega arith
knee-rises false true knee less used cap p q most at h = absurd (grind (arith, nat_tests))
knee-rises false false knee less used cap p q most at h =
    div-mono (1000 * (1000 * less - knee * cap)) (1000 * (1000 * used - knee * cap)) ((1000 - knee) * cap) (rest-pos knee cap most at.some) (omega arith)

-- ---- steps

length-reached : (at : List ℕ) (used cap : ℕ) → length (reached at used cap) ≤ length at
length-reached [] used cap = omega arith
length-reached (place ∷ at) used cap = let h = length-reached at used cap in grind (arith, nat_tests)

none-reached : (below cap : ℕ) (at : List ℕ) → 1 ≤ cap → RiseAbove below at → length (reached at 0 cap) ≡ 0
none-reached below cap [] some rise = refl
none-reached below cap (place ∷ at) some rise =
    let rest : length (reached at 0 cap) ≡ 0 = none-reached place cap at some rise.2 in
    let first : 1 * 1 ≤ place * cap = mul-le 1 1 place cap (omega (arith, rise.0)) some in
    grind (arith, nat_tests)

more-reached : (at : List ℕ) (less used cap : ℕ) → less ≤ used → length (reached at less cap) ≤ length (reached at used cap)
more-reached [] less used cap h = omega arith
more-reached (place ∷ at) less used cap h = let rest = more-reached at less used cap h in grind (arith, nat_tests)

-- ---- all curves

pub pressure_curve : (curve : Curve) → IsInRange curve → IsPressureCurve curve
pressure_curve Linear range = record {
  bounded = λ used cap at. div-le_of_le-mul cap (let h : used ≤ cap = at.within in omega arith);
  starts = λ cap at. let h : 0 / cap ≤ 0 = div-le_of_le-mul cap (omega arith) in omega arith;
  rises = λ less used cap at h. div-mono (1000 * less) (1000 * used) cap at.some (omega arith);
}
pressure_curve (Knee knee) range = record {
  bounded = λ used cap at. knee-bounded (nat_le (1000 * used) (knee * cap)) knee used cap range at;
  starts = λ cap at. under-knee (nat_le 0 (knee * cap)) (1000 * (0 - knee * cap) / ((1000 - knee) * cap)) (grind (arith, nat_tests));
  rises = λ less used cap at h. knee-rises _ _ knee less used cap refl refl range at h;
}
pressure_curve (Steps at) range = record {
  bounded = λ used cap reading. omega (arith, length-reached at used cap, range.0);
  starts = λ cap reading. omega (arith, none-reached 0 cap at reading.some range.1);
  rises = λ less used cap reading h. omega (arith, more-reached at less used cap h);
}

zero-by : (b : Bool) (used cap : ℕ) → nat_le (1000 * used) (0 * cap) ≡ b →
    (if b then 0 else 1000 * (1000 * used - 0 * cap) / ((1000 - 0) * cap)) ≡ 1000 * used / cap
zero-by true used cap e =
    let none : used ≡ 0 = grind (arith, nat_tests) in
    let h : 1000 * used / cap ≤ 0 = div-le_of_le-mul cap (omega arith) in omega arith
zero-by false used cap e =
    let n : 1000 * (1000 * used - 0 * cap) ≡ 1000 * (1000 * used) = omega arith in
    ap (λ (m : ℕ). m / (1000 * cap)) n ∙ sym (div-div-eq-div-mul (1000 * (1000 * used)) 1000 cap)
    ∙ ap (λ (m : ℕ). m / cap) (mul-div_cancel_left (1000 * used) (omega arith))

-- with the knee at 0 the line is that of all uses
pub knee-zero : (used cap : ℕ) → IsReading used cap → curve_value (Knee 0) used cap ≡ curve_value Linear used cap
knee-zero used cap at = zero-by (nat_le (1000 * used) (0 * cap)) used cap refl

-- ---- pressures

-- where there is a cap, a pressure is the curve's value
some_pressure : (curve : Curve) (used cap : ℕ) → 0 < cap → pressure curve used cap ≡ curve_value curve used cap
some_pressure curve used cap h = grind (arith, nat_tests)

-- a use within a cap that is there
reading : (used cap : ℕ) → 0 < cap → cap ≤ 1000000 → used ≤ cap → IsReading used cap
reading used cap some most within = record { some = omega arith; most = most; within = within }

pub pressure-le : (curve : Curve) (used cap : ℕ) → IsInRange curve → used ≤ cap → cap ≤ 1000000 → pressure curve used cap ≤ 1000
pressure-le curve used zero range h most = omega arith
pressure-le curve used (suc cap) range h most =
    rw (some_pressure curve used (suc cap) (omega arith))
    ((pressure_curve curve range).bounded used (suc cap) (reading used (suc cap) (omega arith) most h))

pub pressure-none : (curve : Curve) (cap : ℕ) → IsInRange curve → cap ≤ 1000000 → pressure curve 0 cap ≡ 0
pressure-none curve zero range most = refl
pressure-none curve (suc cap) range most =
    rw (some_pressure curve 0 (suc cap) (omega arith))
    ((pressure_curve curve range).starts (suc cap) (reading 0 (suc cap) (omega arith) most (omega arith)))

pub pressure-mono : (curve : Curve) (less used cap : ℕ) → IsInRange curve → less ≤ used → used ≤ cap → cap ≤ 1000000 →
    pressure curve less cap ≤ pressure curve used cap
pressure-mono curve less used zero range h within most = omega arith
pressure-mono curve less used (suc cap) range h within most =
    rw (some_pressure curve less (suc cap) (omega arith), some_pressure curve used (suc cap) (omega arith))
    ((pressure_curve curve range).rises less used (suc cap) (reading used (suc cap) (omega arith) most within) h)

pub ruleset pressures_bounded = (pressure-le)
