use Rattle.certificate_check.proofs.Common.{ℕ, ◌<◌, program_code, Holds}
use Rattle.certificate_check.proofs.first.first_over_functions.Given as goal

abbrev pub invariant-loop-f : goal.invariant-loop-f
invariant-loop-f l = (g j : ℕ) → g < l.f → Holds (program_code l.flat) l.image l.certificate l.rule g j
