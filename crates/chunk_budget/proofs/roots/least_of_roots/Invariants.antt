use Rattle.chunk_budget.proofs.Common.{◌≡◌, program_code, least_below, high_function, high_root}
use Rattle.chunk_budget.proofs.roots.least_of_roots.Given as goal

abbrev pub invariant-loop-function : goal.invariant-loop-function
invariant-loop-function l =
    l.least ≡ least_below (high_root l.chunks l.heights) (program_code l.flat) (high_function l.chunks l.heights (program_code l.flat).main) l.function
