use Rattle.call_graph.proofs.Common.{◌≡◌, ◌++◌, take, filter_map, call_site}
use Rattle.call_graph.proofs.flat_calls.push_sites.Given as goal

abbrev pub invariant-loop-op : goal.invariant-loop-op
invariant-loop-op l = l.sites.items ≡ l.fn.sites.items ++ filter_map (call_site l.caller) (take l.op-index l.ops)
