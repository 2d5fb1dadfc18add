use Rattle.call_cycles.proofs.Common.{program_code, AreSeen, Marks}
use Rattle.call_cycles.proofs.MarkLemmas.{CallsBefore}
use Rattle.call_cycles.proofs.reaching.mark_callees.Given as goal

abbrev pub invariant-loop-op : goal.invariant-loop-op
invariant-loop-op l = record {
  marked : Marks (CallsBefore l.ops (program_code l.flat) l.op-index) l.fn.marks l.fn.left.items l.marks l.left.items;
  seen : AreSeen (program_code l.flat) l.marks l.seen;
}
