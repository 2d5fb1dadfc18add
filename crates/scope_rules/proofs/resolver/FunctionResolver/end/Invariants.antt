use Rattle.scope_rules.proofs.Common.{◌≡◌, length, all_closed}
use Rattle.scope_rules.specs.Making.{made_by}
use Rattle.scope_rules.proofs.resolver.FunctionResolver.end.Given as goal

abbrev pub invariant-loop-self : goal.invariant-loop-self
invariant-loop-self l = all_closed (made_by l.self) ≡ all_closed (made_by l.initial.self)

abbrev pub decreases-loop-self : goal.decreases-loop-self
decreases-loop-self l = length (made_by l.self).unfinished
