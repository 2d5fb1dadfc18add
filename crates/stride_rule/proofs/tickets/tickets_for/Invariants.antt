use Rattle.stride_rule.proofs.Common.{◌≡◌, ℕ, drop, AreTicketsFrom, tickets_of}
use Rattle.stride_rule.proofs.tickets.tickets_for.Given as goal

abbrev pub invariant-loop-thread : goal.invariant-loop-thread
invariant-loop-thread l = record {
  left : tickets_of (drop l.thread-index l.tickets) l.number ≡ tickets_of l.tickets l.number;
  in_range : (least : ℕ) × AreTicketsFrom least (drop l.thread-index l.tickets);
}
