use Rattle.call_cycles.proofs.Common.{AreNumbered}
use Rattle.call_cycles.proofs.reversed.add_tables.Given as goal

abbrev pub invariant-loop-table : goal.invariant-loop-table
invariant-loop-table l = AreNumbered l.nodes l.sites.items
