use Rattle.std.proofs.Common.{◌≡◌, ℕ, ◌<◌, ◌≤◌, get_or, length}
use Rattle.report.proofs.again.uses.uses_of.Given as goal

abbrev pub invariant-loop-resource : goal.invariant-loop-resource
invariant-loop-resource l = ((r : ℕ) → r < l.resource → get_or l.uses r 0 ≤ get_or l.caps r 0) × (length l.uses ≡ 8)
