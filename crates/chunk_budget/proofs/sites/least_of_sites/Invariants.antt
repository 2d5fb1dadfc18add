use Rattle.chunk_budget.proofs.Common.{◌≡◌, None, program_code, IsKnown, least_below, low_site}
use Rattle.chunk_budget.proofs.sites.least_of_sites.Given as goal

abbrev pub invariant-loop-function : goal.invariant-loop-function
invariant-loop-function l = record {
  known : IsKnown (program_code l.flat) l.heights l.known;
  least : l.least ≡ least_below (low_site (program_code l.flat) l.certificate l.heights) (program_code l.flat) None l.function;
}
