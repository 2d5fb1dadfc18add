use Rattle.certificate_check.proofs.Common.{◌≡◌, drop, max, greatest_bound}
use Rattle.certificate_check.proofs.tables.greatest_bound.Given as goal

abbrev pub invariant-loop-function : goal.invariant-loop-function
invariant-loop-function l = max l.greatest (greatest_bound l.certificate (drop l.function-index l.functions)) ≡ greatest_bound l.certificate l.functions
