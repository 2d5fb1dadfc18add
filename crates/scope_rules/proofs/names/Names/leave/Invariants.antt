use Rattle.std.proofs.Common.{◌≡◌, ◌-◌, drop, length}
use Rattle.scope_rules.proofs.names.Names.leave.Given as goal

abbrev pub invariant-loop-self : goal.invariant-loop-self
invariant-loop-self l = drop (length l.self - l.count) l.self ≡ drop (length l.initial.self - l.count) l.initial.self

abbrev pub decreases-loop-self : goal.decreases-loop-self
decreases-loop-self l = length l.self
