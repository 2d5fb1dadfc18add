-- The gate: closed under pressure, open again after the pressure has fallen, and unchanged in
-- between.
use Rattle.std.specs.Prelude.{ℕ, Bool, true, false, nat_le, if◌then◌else◌, List, fold}
use Rattle.std.specs.List.{list_any, list_all}
use Rattle.resource_monitor.specs.declared.curves.Curve.{Curve}
use Rattle.resource_monitor.specs.Pressure.{pressures}

-- whether the gate is open after pressures are observed, by whether it was open before
abbrev pub gate_after : ℕ → ℕ → Bool → List ℕ → Bool
gate_after high low was_open seen =
    if list_any (λ p. nat_le high p) seen then false else if list_all (λ p. nat_le p low) seen then true else was_open

-- whether the gate, open at first, is open after all these uses were observed, the earliest first
abbrev pub gate : ℕ → ℕ → List Curve → List ℕ → List (List ℕ) → Bool
gate high low curves caps observed = fold (λ was_open uses. gate_after high low was_open (pressures curves uses caps)) true observed
