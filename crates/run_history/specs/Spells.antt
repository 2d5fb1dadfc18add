-- When the gate was closed in a run in which chunks are the only resource.
use Rattle.std.specs.Prelude.{ℕ, ◌+◌, ◌-◌, Bool, true, false, not, [], ◌∷◌, Option, Some, None, is_some}
use Rattle.resource_monitor.specs.Gate.{gate_after}
use Rattle.resource_monitor.specs.Pressure.{pressure}
use Rattle.resource_monitor.specs.declared.curves.Curve.TheVariants.{Knee}
use Rattle.run_history.specs.declared.happenings.Happening.{Happening}
use Rattle.run_history.specs.declared.happenings.Happening.TheVariants.{Came, Lost, Started, Waited, Put, Ran, Nothing}
use Rattle.run_history.specs.declared.spells.Marks.{Marks}
use Rattle.run_history.specs.declared.spells.Spells.{Spells}

-- a gate that was never closed
abbrev pub always_open : Spells
always_open = record { since = None; times = 0; ticks = 0 }

abbrev pub is_open : Spells → Bool
is_open s = not (is_some s.since)

-- the pressure on chunks if this number is free
abbrev pub pressure_with : Marks → ℕ → ℕ
pressure_with m free = pressure (Knee m.knee) (m.chunks - free) m.chunks

-- the gate after a segment that left this number free, given whether it was open before
abbrev pub open_with : Marks → Bool → ℕ → Bool
open_with m was_open free = gate_after m.high m.low was_open (pressure_with m free ∷ [])

-- the gate is open or closed from that clock on: the arguments are since when it was closed, if it was, and whether it
-- is open now
abbrev pub turned : Option ℕ → Bool → ℕ → Spells → Spells
turned None true clock s = s
turned None false clock s = record { since = Some clock; times = s.times + 1; ticks = s.ticks }
turned (Some since) true clock s = record { since = None; times = s.times; ticks = s.ticks + (clock - since) }
turned (Some since) false clock s = s

-- at the start the first thread holds a chunk, and all others are free
abbrev pub at_start : Marks → Spells
at_start m = turned None (open_with m true (m.chunks - 1)) 0 always_open

-- one more happening: the gate changes only at the end of a segment
abbrev pub with_happening : Marks → Happening → Spells → Spells
with_happening m (Came clock item) s = s
with_happening m (Lost clock item) s = s
with_happening m (Started thread clock) s = s
with_happening m (Waited wait) s = s
with_happening m (Put thread value) s = s
with_happening m (Ran segment free) s = turned s.since (open_with m (is_open s) free) segment.ended s
with_happening m Nothing s = s

-- the number of ticks for which it was closed in all, if the run ended at that clock
abbrev pub spell_until : ℕ → Option ℕ → ℕ
spell_until ended None = 0
spell_until ended (Some since) = ended - since

abbrev pub closed_until : ℕ → Spells → ℕ
closed_until ended s = s.ticks + spell_until ended s.since
