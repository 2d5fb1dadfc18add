use Rattle.rule_failures.proofs.Common.{◌≡◌, ℕ, ◌<◌, length, program_code, fact_at, V2, AreMarked}
use Rattle.stack_image.specs.Addresses.{code_start}
use Rattle.rule_failures.proofs.ranges.first_over_ranges.Given as goal

abbrev pub invariant-loop-f : goal.invariant-loop-f
invariant-loop-f l = record {
  marked : AreMarked code_start (λ g. (fact_at l.certificate g).entry) (λ g. (fact_at l.certificate g).words) l.f l.marks;
  count : length l.marks ≡ length l.image.code;
  lower : (g j : ℕ) → g < l.f → V2 (program_code l.flat) l.image l.certificate g j;
}
