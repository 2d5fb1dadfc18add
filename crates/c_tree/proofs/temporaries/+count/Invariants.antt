use Rattle.c_tree.proofs.Common.{◌≡◌, ◌≤◌, max, drop, stmt_trees, capped, stmts_temporaries}
use Rattle.c_tree.proofs.temporaries.+count.Given as goal

abbrev pub invariant-stmts_of-loop-stmt : goal.invariant-stmts_of-loop-stmt
invariant-stmts_of-loop-stmt l =
    (l.most ≤ 65537)
    × (capped (max l.most (stmts_temporaries (stmt_trees (drop l.stmt-index l.stmts)))) ≡ capped (stmts_temporaries (stmt_trees l.stmts)))
