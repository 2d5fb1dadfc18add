use Rattle.certificate_check.proofs.Common.{program_code, HoldBelow}
use Rattle.certificate_check.proofs.first.first_behind_fit.Given as goal

abbrev pub invariant-loop-rule : goal.invariant-loop-rule
invariant-loop-rule l = HoldBelow (program_code l.flat) l.image l.certificate l.rule
