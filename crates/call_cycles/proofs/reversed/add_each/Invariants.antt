use Rattle.call_cycles.proofs.Common.{AreNumbered}
use Rattle.call_cycles.proofs.reversed.add_each.Given as goal

abbrev pub invariant-loop-function : goal.invariant-loop-function
invariant-loop-function l = AreNumbered l.nodes l.sites.items
