use Rattle.std.proofs.Common.{◌≡◌, ℕ, ◌+◌, ◌-◌, get_or, length}
use Rattle.report_figures.specs.Ticks.{ticks_in}
use Rattle.report_figures.proofs.ticks.TickList.reach.Given as goal

abbrev pub invariant-loop-self : goal.invariant-loop-self
invariant-loop-self l = ((other : ℕ) → get_or (ticks_in l.self) other 0 ≡ get_or (ticks_in l.initial.self) other 0)
    × (length (ticks_in l.self) + (l.place + 1 - length (ticks_in l.self)) ≡ length (ticks_in l.initial.self) + (l.place + 1 - length (ticks_in l.initial.self)))

abbrev pub decreases-loop-self : goal.decreases-loop-self
decreases-loop-self l = l.place + 1 - length (ticks_in l.self)
