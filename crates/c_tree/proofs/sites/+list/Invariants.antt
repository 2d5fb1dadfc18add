use Rattle.c_tree.proofs.Common.{◌≡◌, ◌++◌, drop, stmt_trees, stmts_sites}
use Rattle.c_tree.proofs.sites.+list.Given as goal

abbrev pub invariant-list_stmts-loop-stmt : goal.invariant-list_stmts-loop-stmt
invariant-list_stmts-loop-stmt l = l.sites.items ++ stmts_sites (stmt_trees (drop l.stmt-index l.stmts)) ≡ l.initial.sites.items ++ stmts_sites (stmt_trees l.stmts)
