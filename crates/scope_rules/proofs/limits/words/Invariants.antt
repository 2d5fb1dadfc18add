use Rattle.scope_rules.proofs.Common.{◌≡◌, ◌≤◌, ◌+◌, drop, sum, capped}
use Rattle.scope_rules.proofs.limits.words.Given as goal

abbrev pub invariant-loop-size : goal.invariant-loop-size
invariant-loop-size l = (l.total ≤ 65537) × (capped (l.total + sum (drop l.size-index l.sizes)) ≡ capped (sum l.sizes))
