use Rattle.rule_failures.proofs.Common.{◌≡◌, ℕ, ◌<◌, length, function_at, program_code, fact_at}
use Rattle.rule_failures.proofs.fit.first_without_places.Given as goal

abbrev pub invariant-loop-f : goal.invariant-loop-f
invariant-loop-f l = (g : ℕ) → g < l.f → length (fact_at l.certificate g).places ≡ length (function_at (program_code l.flat) g).sizes
