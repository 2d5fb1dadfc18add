-- The sizes of the statements that jumps skip, in the order of a walk from the end of the text to its start.
use Rattle.std.specs.Prelude.{ℕ, List, [], ◌∷◌, ◌++◌}
use Rattle.c_tree.specs.Trees.{StmtTree, StmtTrees, Do, Empty, Block, If, IfElse, While, For, Break, Continue, Return, NoStmts, Then}
use Rattle.c_lower.specs.StmtCode.{stmt_size}

-- The last size is the first that is used when the code is written from the start.
abbrev mutual
  pub stmt_sizes : StmtTree → List ℕ
  stmt_sizes (Do s) = []
  stmt_sizes Empty = []
  stmt_sizes (Block ss) = stmts_sizes ss
  stmt_sizes (If c s) = stmt_sizes s ++ (stmt_size s ∷ [])
  stmt_sizes (IfElse c s r) = (stmt_sizes r ++ (stmt_size r ∷ [])) ++ (stmt_sizes s ++ (stmt_size s ∷ []))
  stmt_sizes (While c s) = stmt_sizes s ++ (stmt_size s ∷ [])
  stmt_sizes (For init c step s) = stmt_sizes s ++ (stmt_size s ∷ [])
  stmt_sizes Break = []
  stmt_sizes Continue = []
  stmt_sizes (Return v) = []

  pub stmts_sizes : StmtTrees → List ℕ
  stmts_sizes NoStmts = []
  stmts_sizes (Then s ss) = stmts_sizes ss ++ stmt_sizes s
