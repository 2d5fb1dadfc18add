use Rattle.chunk_budget.proofs.Common.{◌≡◌, length, vec_len, program_code}
use Rattle.chunk_budget.proofs.MadeLemmas.{AreCoveredBefore, AreLeast}
use Rattle.chunk_budget.proofs.made.least_heights.Given as goal

abbrev pub invariant-loop-number : goal.invariant-loop-number
invariant-loop-number l = record {
  each : vec_len l.heights ≡ length (program_code l.flat).functions;
  covered : AreCoveredBefore (program_code l.flat) l.certificate l.order l.heights.items l.number-index;
  least : AreLeast (program_code l.flat) l.certificate l.heights.items;
}
