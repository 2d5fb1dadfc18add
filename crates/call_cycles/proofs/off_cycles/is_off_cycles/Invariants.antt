use Rattle.call_cycles.proofs.Common.{◌+◌, length, program_code, AreSeen, unmarked}
use Rattle.call_cycles.proofs.ClosedLemmas.{IsSpread}
use Rattle.call_cycles.proofs.off_cycles.is_off_cycles.Given as goal

abbrev pub invariant-loop-next : goal.invariant-loop-next
invariant-loop-next l = record {
  spread : IsSpread (program_code l.flat) l.function (length (program_code l.flat).functions) l.marks l.left.items;
  seen : AreSeen (program_code l.flat) l.marks l.seen;
}

abbrev pub decreases-loop-next : goal.decreases-loop-next
decreases-loop-next l = unmarked l.marks + length l.left.items
