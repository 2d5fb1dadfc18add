use Rattle.scope_rules.proofs.Common.{◌≡◌, ◌≤◌, ◌+◌, drop, sum, map, capped}
use Rattle.scope_rules.proofs.limits.global_words.Given as goal

abbrev pub invariant-loop-global : goal.invariant-loop-global
invariant-loop-global l = (l.total ≤ 65537) × (capped (l.total + sum (map (λ g. g.words) (drop l.global-index l.globals))) ≡ capped (sum (map (λ g. g.words) l.globals)))
