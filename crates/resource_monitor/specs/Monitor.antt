-- The state of a monitor, and its invariant.
use Rattle.std.specs.Prelude.{ℕ, ◌≡◌, ◌<◌, ◌≤◌, Bool, true, IsTrue, List, length, replicate, slice_index, slice_index_or}
use Rattle.resource_monitor.specs.declared.curves.Curve.{Curve}
use Rattle.resource_monitor.specs.declared.curves.Curve.TheVariants.{Linear}
use Rattle.resource_monitor.specs.Pressure.{pressure, IsInRange}

-- the curves of the gauges and the caps of the eight resources, the two bounds of the gate, the uses observed last, and
-- the gate
pub record MonitorState : Type 0 where
  pub curves : List Curve
  pub caps : List ℕ
  pub high : ℕ
  pub low : ℕ
  pub uses : List ℕ
  pub is_open : Bool

-- the curve of a resource's gauge
abbrev pub curve_at : List Curve → ℕ → Curve
curve_at curves resource = slice_index_or curves resource Linear

-- the pressure of a resource, by its gauge's curve, at the use observed last
abbrev pub pressure_at : MonitorState → ℕ → ℕ
pressure_at monitor resource = pressure (curve_at monitor.curves resource) (slice_index monitor.uses resource) (slice_index monitor.caps resource)

-- no resource's use is above its bound in the other list
abbrev pub NoneAbove : List ℕ → List ℕ → Type 0
NoneAbove uses bounds = (resource : ℕ) → resource < 8 → slice_index uses resource ≤ slice_index bounds resource

-- the eight caps of a monitor, each at most 1,000,000
abbrev pub SmallCaps : List ℕ → Type 0
SmallCaps caps = (resource : ℕ) → resource < 8 → slice_index caps resource ≤ 1000000

-- the curves of the eight gauges are in their ranges
abbrev pub AreInRange : List Curve → Type 0
AreInRange curves = (resource : ℕ) → resource < 8 → IsInRange (curve_at curves resource)

-- the initial monitor: all uses are 0, and the gate is open
abbrev pub started : List Curve → List ℕ → ℕ → ℕ → MonitorState
started curves caps high low = record { curves = curves; caps = caps; high = high; low = low; uses = replicate 8 0; is_open = true }

-- the invariant of a monitor: eight curves in their ranges, eight caps of at most 1,000,000, eight uses within them,
-- bounds of the gate from 0 to 1000, and the gate isn't open if some pressure is at its upper bound
pub record IsMonitor (monitor : MonitorState) : Type 0 where
  pub eight_curves : length monitor.curves ≡ 8
  pub in_range : AreInRange monitor.curves
  pub eight_caps : length monitor.caps ≡ 8
  pub eight_uses : length monitor.uses ≡ 8
  pub small_caps : SmallCaps monitor.caps
  pub within : NoneAbove monitor.uses monitor.caps
  pub apart : monitor.low < monitor.high
  pub most : monitor.high ≤ 1000
  pub calm : IsTrue monitor.is_open → (resource : ℕ) → resource < 8 → pressure_at monitor resource < monitor.high
