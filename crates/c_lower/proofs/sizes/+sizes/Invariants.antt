use Rattle.c_lower.proofs.Common.{◌≡◌, ◌≤◌, ◌++◌, length, drop, stmt_trees, stmts_size, stmts_sizes}
use Rattle.c_lower.proofs.sizes.+sizes.Given as goal

abbrev pub invariant-size_of_stmts-loop-index : goal.invariant-size_of_stmts-loop-index
invariant-size_of_stmts-loop-index l = record {
  within : l.index ≤ length l.stmts;
  size : l.size ≡ stmts_size (stmt_trees (drop l.index l.stmts));
  passed : l.sizes.items ≡ l.fn.sizes.items ++ stmts_sizes (stmt_trees (drop l.index l.stmts));
}

abbrev pub decreases-size_of_stmts-loop-index : goal.decreases-size_of_stmts-loop-index
decreases-size_of_stmts-loop-index l = l.index
