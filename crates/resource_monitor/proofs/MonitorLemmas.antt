-- What a monitor keeps when it takes new uses.
use Rattle.std.proofs.Common.{◌≡◌, ℕ, suc, ◌≤◌, ◌<◌, IsTrue, List, length, replicate, get_or, refl, arith}
use Rattle.resource_monitor.specs.declared.curves.Curve.{Curve}
use Rattle.resource_monitor.specs.declared.curves.Curve.TheVariants.{Linear}
use Rattle.resource_monitor.specs.Pressure.{pressure, pressures}
use Rattle.resource_monitor.specs.Gate.{gate_after}
use Rattle.resource_monitor.specs.Monitor.{MonitorState, IsMonitor, AreInRange, NoneAbove, SmallCaps, started}
use Rattle.resource_monitor.proofs.CurveLemmas.{pressure-mono, pressure-none}
use Rattle.resource_monitor.proofs.GateLemmas.{none_from_each, each_from_none, none_where_open, open_where_none}

-- ---- at first

none-used : (n k : ℕ) → ◌≡◌ {A = ℕ} (get_or (replicate n 0) k 0) 0
none-used (suc n) (suc k) = none-used n k
none-used _ _ = refl

pub IsMonitor-started : (curves : List Curve) (caps : List ℕ) (high low : ℕ) → length curves ≡ 8 → length caps ≡ 8 → AreInRange curves → SmallCaps caps →
    low < high → high ≤ 1000 → IsMonitor (started curves caps high low)
IsMonitor-started curves caps high low eight also in_range small apart most = record {
  eight_curves = eight;
  in_range = in_range;
  eight_caps = also;
  eight_uses = refl;
  small_caps = small;
  within = λ resource h. rw (none-used 8 resource) (omega arith);
  apart = apart;
  most = most;
  calm = λ open_now resource h.
      let curve = get_or curves resource Linear in
      let none : pressure curve 0 (get_or caps resource 0) ≡ 0 = pressure-none curve (get_or caps resource 0) (in_range resource h) (small resource h) in
      rw (none-used 8 resource, none) (omega arith);
}

-- ---- with new uses

pub IsMonitor-observe : (m : MonitorState) (uses : List ℕ) → IsMonitor m → length uses ≡ 8 → NoneAbove uses m.caps →
    IsMonitor (record m { uses = uses; is_open = gate_after m.high m.low m.is_open (pressures m.curves uses m.caps) })
IsMonitor-observe m uses kept eight within = record {
  eight_curves = kept.eight_curves;
  in_range = kept.in_range;
  eight_caps = kept.eight_caps;
  eight_uses = eight;
  small_caps = kept.small_caps;
  within = within;
  apart = kept.apart;
  most = kept.most;
  calm = λ open_now resource h.
      each_from_none m.high m.curves uses m.caps (omega (arith, kept.eight_curves)) (omega (arith, kept.eight_curves, kept.eight_caps))
      (none_where_open m.high m.low m.is_open (pressures m.curves uses m.caps) open_now) resource (omega (arith, kept.eight_curves));
}

-- an open gate stays open where no use is higher than before
pub stays_open : (m : MonitorState) (uses : List ℕ) → IsMonitor m → length uses ≡ 8 → NoneAbove uses m.uses → IsTrue m.is_open →
    IsTrue (gate_after m.high m.low m.is_open (pressures m.curves uses m.caps))
stays_open m uses kept eight no_higher was_open =
    open_where_none m.high m.low m.is_open (pressures m.curves uses m.caps) was_open
    (none_from_each m.high m.curves uses m.caps (λ k h.
    let small : k < 8 = omega (arith, kept.eight_curves) in
    let curve = get_or m.curves k Linear in
    let within : get_or m.uses k 0 ≤ get_or m.caps k 0 = kept.within k small in
    let most : get_or m.caps k 0 ≤ 1000000 = kept.small_caps k small in
    let less : pressure curve (get_or uses k 0) (get_or m.caps k 0) ≤ pressure curve (get_or m.uses k 0) (get_or m.caps k 0) =
    pressure-mono curve (get_or uses k 0) (get_or m.uses k 0) (get_or m.caps k 0) (kept.in_range k small) (no_higher k small) within most in
    let calm : pressure curve (get_or m.uses k 0) (get_or m.caps k 0) < m.high = kept.calm was_open k small in
    omega arith))
