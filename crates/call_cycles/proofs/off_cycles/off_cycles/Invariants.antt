use Rattle.call_cycles.proofs.Common.{◌≡◌, ◌≤◌, length, vec_len, program_code, AreOffCycles, AreSeen, IsClosed}
use Rattle.call_cycles.proofs.off_cycles.off_cycles.Given as goal

abbrev pub invariant-loop-place : goal.invariant-loop-place
invariant-loop-place l = record {
  place : l.place ≤ length l.order;
  each : vec_len l.off ≡ length (program_code l.flat).functions;
  marks : length l.marks ≡ length (program_code l.flat).functions;
  seen : AreSeen (program_code l.flat) l.marks l.seen;
  closed : IsClosed (program_code l.flat) l.marks;
  off : AreOffCycles (program_code l.flat) l.off.items;
}

abbrev pub decreases-loop-place : goal.decreases-loop-place
decreases-loop-place l = l.place
