use Rattle.call_graph.proofs.Common.{◌≡◌, ◌++◌, drop, call_sites_from}
use Rattle.call_graph.proofs.flat_calls.sites_of_functions.Given as goal

abbrev pub invariant-loop-caller : goal.invariant-loop-caller
invariant-loop-caller l = l.sites.items ++ call_sites_from l.caller (drop l.caller l.functions) ≡ call_sites_from 0 l.functions
