use Rattle.schedule_reading.proofs.Common.{◌≡◌, ℕ, ◌<◌, ◌≤◌, get_or, length, cap_in, used_in}
use Rattle.schedule_reading.proofs.reading.Reading.uses.Given as goal

abbrev pub invariant-loop-resource : goal.invariant-loop-resource
invariant-loop-resource g l =
    ((r : ℕ) → r < l.resource → get_or l.uses r 0 ≡ used_in l.self.core r) × ((r : ℕ) → r < l.resource → get_or l.uses r 0 ≤ cap_in l.self.core r) × (length l.uses ≡ 8)
