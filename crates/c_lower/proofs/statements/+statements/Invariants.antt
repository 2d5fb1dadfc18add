use Rattle.c_lower.proofs.Common.{◌≡◌, ◌<◌, ◌+◌, ◌^◌, ◌++◌, List, ℕ, length, drop, stmts_temporaries, stmt_trees, stmts_code, stmts_sizes}
use Rattle.c_lower.proofs.statements.+statements.Given as goal

abbrev pub invariant-put_stmts-loop-stmt : goal.invariant-put_stmts-loop-stmt
invariant-put_stmts-loop-stmt l = record {
  code : (rest : List ℕ) → l.fn.sizes.items ≡ rest ++ stmts_sizes (stmt_trees l.stmts)
      → (l.code.items ++ stmts_code (stmt_trees (drop l.stmt-index l.stmts)) (length l.code.items) l.context.t l.context.leave l.context.skip
      ≡ l.fn.code.items ++ stmts_code (stmt_trees l.stmts) (length l.fn.code.items) l.context.t l.context.leave l.context.skip)
      × (l.sizes.items ≡ rest ++ stmts_sizes (stmt_trees (drop l.stmt-index l.stmts)));
  fits : l.context.t + stmts_temporaries (stmt_trees (drop l.stmt-index l.stmts)) < 2 ^ 32;
}
