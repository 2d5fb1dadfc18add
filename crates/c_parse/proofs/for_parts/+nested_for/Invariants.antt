use Rattle.c_parse.proofs.Common.{◌≡◌, drop, raw_stmt_trees, earlier, nested_in_all_for}
use Rattle.c_parse.proofs.for_parts.+nested_for.Given as goal

abbrev pub invariant-nested_in_all_for-loop-stmt : goal.invariant-nested_in_all_for-loop-stmt
invariant-nested_in_all_for-loop-stmt l = earlier l.found (nested_in_all_for (raw_stmt_trees (drop l.stmt-index l.stmts))) ≡ nested_in_all_for (raw_stmt_trees l.stmts)
