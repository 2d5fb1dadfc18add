use Rattle.call_cycles.proofs.Common.{◌≡◌, ◌+◌, ℕ, true, length, program_code, Reaches, AreSeen, is_marked, unmarked}
use Rattle.call_cycles.proofs.ClosedLemmas.{IsSpread}
use Rattle.call_cycles.proofs.cycles.is_on_cycle.Given as goal

abbrev pub invariant-loop-next : goal.invariant-loop-next
invariant-loop-next l = record {
  spread : IsSpread (program_code l.flat) l.function (length (program_code l.flat).functions) l.marks l.left.items;
  reached : (g : ℕ) → is_marked l.marks g ≡ true → Reaches (program_code l.flat) l.function g;
  seen : AreSeen (program_code l.flat) l.marks l.seen;
}

abbrev pub decreases-loop-next : goal.decreases-loop-next
decreases-loop-next l = unmarked l.marks + length l.left.items
