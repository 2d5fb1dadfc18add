use Rattle.call_cycles.proofs.Common.{AreNumbered}
use Rattle.call_cycles.proofs.reversed.add_callers.Given as goal

abbrev pub invariant-loop-site : goal.invariant-loop-site
invariant-loop-site l = AreNumbered l.nodes l.sites.items
