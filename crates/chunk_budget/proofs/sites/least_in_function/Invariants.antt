use Rattle.chunk_budget.proofs.Common.{◌≡◌, drop, program_code, IsKnown, least_in, low_site}
use Rattle.chunk_budget.proofs.sites.least_in_function.Given as goal

abbrev pub invariant-loop-op : goal.invariant-loop-op
invariant-loop-op l = record {
  known : IsKnown (program_code l.flat) l.heights l.known;
  least : least_in (low_site (program_code l.flat) l.certificate l.heights l.function) (drop l.op-index l.ops) l.least
      ≡ least_in (low_site (program_code l.flat) l.certificate l.heights l.function) l.ops l.fn.first;
}
