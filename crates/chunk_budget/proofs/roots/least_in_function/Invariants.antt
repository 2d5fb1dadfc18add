use Rattle.chunk_budget.proofs.Common.{◌≡◌, drop, least_in, high_root}
use Rattle.chunk_budget.proofs.roots.least_in_function.Given as goal

abbrev pub invariant-loop-op : goal.invariant-loop-op
invariant-loop-op l =
    least_in (high_root l.chunks l.heights l.function) (drop l.op-index l.ops) l.least ≡ least_in (high_root l.chunks l.heights l.function) l.ops l.fn.first
