use Rattle.call_places.proofs.Common.{◌≡◌, ◌++◌, drop, raw_stmt_trees, is_call, stmts_places}
use Rattle.call_places.proofs.calls.+stmts.Given as goal

abbrev pub invariant-add_stmts-loop-stmt : goal.invariant-add_stmts-loop-stmt
invariant-add_stmts-loop-stmt l = l.places.items ++ stmts_places is_call (raw_stmt_trees (drop l.stmt-index l.stmts)) ≡ l.initial.places.items ++ stmts_places is_call (raw_stmt_trees l.stmts)
