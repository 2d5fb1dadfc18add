-- The list of pressures, and what an open gate says of it.
use Rattle.std.proofs.lemmas.Bool.Decides.{nat_tests}
use Rattle.std.proofs.Common.{◌≡◌, ℕ, zero, suc, ◌<◌, Bool, false, IsTrue, nat_le, List, [], ◌∷◌, length, get_or, refl, arith}
use Rattle.std.specs.List.{list_any}
use Rattle.resource_monitor.specs.declared.curves.Curve.{Curve}
use Rattle.resource_monitor.specs.declared.curves.Curve.TheVariants.{Linear}
use Rattle.resource_monitor.specs.Pressure.{pressure, pressures}
use Rattle.resource_monitor.specs.Gate.{gate_after}

-- a list is that of the pressures where each place has its pressure
pub pressures_from_each : (seen : List ℕ) (curves : List Curve) (uses caps : List ℕ) → length seen ≡ length curves →
    length uses ≡ length curves → length caps ≡ length curves →
    ((k : ℕ) → k < length curves → get_or seen k 0 ≡ pressure (get_or curves k Linear) (get_or uses k 0) (get_or caps k 0)) →
    seen ≡ pressures curves uses caps
pressures_from_each [] [] uses caps p q r each = refl
pressures_from_each (s ∷ seen) (curve ∷ curves) (used ∷ uses) (cap ∷ caps) p q r each =
    let first : s ≡ pressure curve used cap = each 0 (omega arith) in
    let rest : seen ≡ pressures curves uses caps = pressures_from_each seen curves uses caps (omega arith) (omega arith) (omega arith) (λ k h. each (suc k) (omega arith)) in
    cc
pressures_from_each _ _ _ _ p q r each = absurd (omega arith)

-- no pressure is at the bound, of lists of uses and caps
pub none_from_each : (high : ℕ) (curves : List Curve) (uses caps : List ℕ) →
    ((k : ℕ) → k < length curves → pressure (get_or curves k Linear) (get_or uses k 0) (get_or caps k 0) < high) →
    list_any (λ p. nat_le high p) (pressures curves uses caps) ≡ false
none_from_each high (curve ∷ curves) (used ∷ uses) (cap ∷ caps) each =
    let first : pressure curve used cap < high = each 0 (omega arith) in
    let rest : list_any (λ p. nat_le high p) (pressures curves uses caps) ≡ false = none_from_each high curves uses caps (λ k h. each (suc k) (omega arith)) in
    grind (arith, nat_tests)
none_from_each high _ _ _ each = refl

pub each_from_none : (high : ℕ) (curves : List Curve) (uses caps : List ℕ) → length uses ≡ length curves → length caps ≡ length curves →
    list_any (λ p. nat_le high p) (pressures curves uses caps) ≡ false →
    (k : ℕ) → k < length curves → pressure (get_or curves k Linear) (get_or uses k 0) (get_or caps k 0) < high
each_from_none high (curve ∷ curves) (used ∷ uses) (cap ∷ caps) p q none zero h = grind (arith, nat_tests)
each_from_none high (curve ∷ curves) (used ∷ uses) (cap ∷ caps) p q none (suc k) h =
    each_from_none high curves uses caps (omega arith) (omega arith) (grind (arith, nat_tests)) k (omega arith)
each_from_none high _ _ _ p q none k h = absurd (omega arith)

-- a gate that is open after these pressures were seen saw none at the bound
pub none_where_open : (high low : ℕ) (was_open : Bool) (seen : List ℕ) → IsTrue (gate_after high low was_open seen) →
    list_any (λ p. nat_le high p) seen ≡ false
none_where_open high low was_open seen open_now = grind (arith, nat_tests)

-- an open gate stays open where no pressure is at the bound
pub open_where_none : (high low : ℕ) (was_open : Bool) (seen : List ℕ) → IsTrue was_open →
    list_any (λ p. nat_le high p) seen ≡ false → IsTrue (gate_after high low was_open seen)
open_where_none high low was_open seen was none = grind (arith, nat_tests)
