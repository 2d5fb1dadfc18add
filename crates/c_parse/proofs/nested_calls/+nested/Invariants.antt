use Rattle.c_parse.proofs.Common.{◌≡◌, drop, raw_stmt_trees, earlier, nested_in_stmts}
use Rattle.c_parse.proofs.nested_calls.+nested.Given as goal

abbrev pub invariant-nested_in_stmts-loop-stmt : goal.invariant-nested_in_stmts-loop-stmt
invariant-nested_in_stmts-loop-stmt l = earlier l.found (nested_in_stmts (raw_stmt_trees (drop l.stmt-index l.stmts))) ≡ nested_in_stmts (raw_stmt_trees l.stmts)
