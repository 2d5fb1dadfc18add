-- The pressure of a resource: the value of a curve at its use and cap, from 0 to 1000.
use Rattle.std.specs.Prelude.{ℕ, ⊤, ◌≡◌, ◌-◌, ◌*◌, ◌/◌, ◌≤◌, ◌<◌, ◌==◌, nat_le, if◌then◌else◌, List, [], ◌∷◌, length, filter}
use Rattle.resource_monitor.specs.declared.curves.Curve.{Curve}
use Rattle.resource_monitor.specs.declared.curves.Curve.TheVariants.{Linear, Knee, Steps}

-- the thresholds that the use has reached, each in thousandths of the cap
abbrev pub reached : List ℕ → ℕ → ℕ → List ℕ
reached at used cap = filter (λ place. nat_le (place * cap) (1000 * used)) at

-- the value of a curve at a use of `used` with the cap `cap`
abbrev pub curve_value : Curve → ℕ → ℕ → ℕ
curve_value Linear used cap = 1000 * used / cap
curve_value (Knee knee) used cap =
    if nat_le (1000 * used) (knee * cap) then 0 else 1000 * (1000 * used - knee * cap) / ((1000 - knee) * cap)
curve_value (Steps at) used cap = 125 * length (reached at used cap)

-- the pressure of a resource at a use of `used` with the cap `cap`, by the curve of its gauge; a resource with cap
-- 0 has pressure 0
abbrev pub pressure : Curve → ℕ → ℕ → ℕ
pressure curve used cap = if cap == 0 then 0 else curve_value curve used cap

-- the pressure of each resource, from the curves of the gauges, the uses and the caps
abbrev pub pressures : List Curve → List ℕ → List ℕ → List ℕ
pressures (curve ∷ curves) (used ∷ uses) (cap ∷ caps) = pressure curve used cap ∷ pressures curves uses caps
pressures _ _ _ = []

-- ---- the ranges of curves

-- the thresholds strictly increase, from above this one to at most 1000
abbrev pub RiseAbove : ℕ → List ℕ → Type 0
RiseAbove below [] = ⊤
RiseAbove below (place ∷ places) = (below < place) × (place ≤ 1000) × RiseAbove place places

-- a knee is at most 999; steps have eight thresholds, strictly increasing from at least 1 to at most 1000
abbrev pub IsInRange : Curve → Type 0
IsInRange Linear = ⊤
IsInRange (Knee knee) = knee ≤ 999
IsInRange (Steps at) = (length at ≡ 8) × RiseAbove 0 at

-- ---- the invariant of a gauge

-- a use and a cap for which a gauge calls its closure
pub record IsReading (used cap : ℕ) : Type 0 where
  pub some : 1 ≤ cap
  pub most : cap ≤ 1000000
  pub within : used ≤ cap

-- a curve gives a pressure: at most 1000, 0 at a use of 0, and never decreasing as the use increases
pub record IsPressureCurve (curve : Curve) : Type 0 where
  pub bounded : (used cap : ℕ) → IsReading used cap → curve_value curve used cap ≤ 1000
  pub starts : (cap : ℕ) → IsReading 0 cap → curve_value curve 0 cap ≡ 0
  pub rises : (less used cap : ℕ) → IsReading used cap → less ≤ used → curve_value curve less cap ≤ curve_value curve used cap

-- a closure computes a curve: it may be called at each use and cap, and returns the curve's value
pub record AnswersCurve (pre : ℕ → ℕ → Type 0) (post : ℕ → ℕ → ℕ → Type 0) (curve : Curve) : Type 0 where
  pub callable : (used cap : ℕ) → IsReading used cap → pre used cap
  pub answers : (used cap answer : ℕ) → IsReading used cap → post used cap answer → answer ≡ curve_value curve used cap
