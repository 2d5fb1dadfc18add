use Rattle.rule_failures.proofs.Common.{ℕ, ◌<◌, program_code, V6}
use Rattle.rule_failures.proofs.operations.first_astray.Given as goal

abbrev pub invariant-loop-op : goal.invariant-loop-op
invariant-loop-op l = (j : ℕ) → j < l.op → V6 (program_code l.flat) l.image l.certificate l.function j
