use Rattle.call_cycles.proofs.Common.{ℕ, ◌<◌, program_code, IsOnCycle}
use Rattle.call_cycles.proofs.cycles.least_on_cycle.Given as goal

abbrev pub invariant-loop-number : goal.invariant-loop-number
invariant-loop-number l = (g : ℕ) → g < l.number → IsOnCycle (program_code l.flat) g → ⊥
