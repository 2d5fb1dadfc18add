use Rattle.chunk_budget.proofs.Common.{◌≡◌, max, drop, program_code, greatest, IsKnown, height_asked}
use Rattle.chunk_budget.proofs.made.height_over.Given as goal

abbrev pub invariant-loop-op : goal.invariant-loop-op
invariant-loop-op l = record {
  known : IsKnown (program_code l.flat) l.heights l.known;
  most : max l.most (greatest (height_asked (program_code l.flat) l.certificate l.heights) (drop l.op-index l.ops))
      ≡ greatest (height_asked (program_code l.flat) l.certificate l.heights) l.ops;
}
