-- Statements: the rules that they break, their trees with numbers in place of names, and the scope after them.
use Rattle.std.specs.Prelude.{ℕ, Bool, true, not, List, [], ◌∷◌, ◌++◌, length, Option, Some, None, option_map}
use Rattle.c_tree.specs.RawTrees.{RawExprTree, RawSimpleTree, RawDeclareScalar, RawDeclareArray, RawDeclareWith, RawSet, RawSetElement, RawCalling, RawTableCalling, RawStmtTree, RawStmtTrees, RawDo, RawEmpty, RawBlock, RawIf, RawIfElse, RawWhile, RawFor, RawBreak, RawContinue, RawReturn, NoRawStmts, RawThen}
use Rattle.c_tree.specs.Trees.{RightTree, StmtTree, StmtTrees, Do, Empty, Block, If, IfElse, While, For, Break, Continue, Return, NoStmts, Then}
use Rattle.scope_rules.specs.declared.faults.Rule.{Rule}
use Rattle.scope_rules.specs.declared.faults.Fault.{Fault}
use Rattle.scope_rules.specs.Names.{Binding}
use Rattle.scope_rules.specs.Faults.{fault, broken}
use Rattle.scope_rules.specs.Expressions.{expr_faults, expr_of}
use Rattle.scope_rules.specs.Calls.{right_faults, right_of}
use Rattle.scope_rules.specs.Places.{Spot}
use Rattle.scope_rules.specs.Simples.{valued, simple_faults, simple_of, simple_after, simples_faults, simples_of, simples_after}

-- the start of a scope: the names so far are outside it
abbrev pub inside : Spot → Spot
inside s = record s { outer = length s.names }

-- after a scope that began at the first of two spots and ended at the other: its names are out of scope, the counts are
-- kept
abbrev pub left : Spot → Spot → Spot
left s e = record e { names = s.names; outer = s.outer }

abbrev pub condition_faults : List Binding → Option RawExprTree → List Fault
condition_faults names None = []
condition_faults names (Some e) = expr_faults names e

-- the step of a for breaks Kind if it declares a name, which no source has
abbrev pub step_kind : RawSimpleTree → List Fault
step_kind (RawDeclareScalar n) = fault n.at Rule.Kind ∷ []
step_kind (RawDeclareArray n size) = fault n.at Rule.Kind ∷ []
step_kind (RawDeclareWith n v) = fault n.at Rule.Kind ∷ []
step_kind (RawSet n v) = []
step_kind (RawSetElement n i v) = []
step_kind (RawCalling n es) = []
step_kind (RawTableCalling n i e) = []

abbrev pub step_faults : Spot → Option RawSimpleTree → List Fault
step_faults s None = []
step_faults s (Some p) = step_kind p ++ simple_faults s p

abbrev pub step_after : Spot → Option RawSimpleTree → Spot
step_after s None = s
step_after s (Some p) = simple_after s p

-- the rules that the parts of a for break
abbrev pub parts_faults : Spot → List RawSimpleTree → Option RawExprTree → Option RawSimpleTree → List Fault
parts_faults s init c step = simples_faults s init ++ (condition_faults (simples_after s init).names c ++ step_faults (simples_after s init) step)

-- a return breaks Kind with a value in a void function, and without one in an int function
abbrev pub return_faults : Bool → List Binding → ℕ → Option RawExprTree → List Fault
return_faults gives names at None = broken gives at Rule.Kind
return_faults gives names at (Some v) = broken (not gives) at Rule.Kind ++ right_faults names v

abbrev pub returned_of : Spot → Option RawExprTree → Option RightTree
returned_of s None = None
returned_of s (Some v) = Some (right_of s.names s.site v)

abbrev pub returned_after : Spot → Option RawExprTree → Spot
returned_after s None = s
returned_after s (Some v) = valued s v

-- the scope after a statement: a block, a body, and a for with its parts are scopes
abbrev mutual
  pub stmt_after : Spot → RawStmtTree → Spot
  stmt_after s (RawDo p) = simple_after s p
  stmt_after s RawEmpty = s
  stmt_after s (RawBlock ps) = left s (stmts_after (inside s) ps)
  stmt_after s (RawIf c p) = left s (stmt_after (inside s) p)
  stmt_after s (RawIfElse c p r) = left s (stmt_after (inside (left s (stmt_after (inside s) p))) r)
  stmt_after s (RawWhile c p) = left s (stmt_after (inside s) p)
  stmt_after s (RawFor init c step p) = left s (stmt_after (inside (step_after (simples_after (inside s) init) step)) p)
  stmt_after s (RawBreak at) = s
  stmt_after s (RawContinue at) = s
  stmt_after s (RawReturn at v) = returned_after s v

  pub stmts_after : Spot → RawStmtTrees → Spot
  stmts_after s NoRawStmts = s
  stmts_after s (RawThen p ps) = stmts_after (stmt_after s p) ps

-- the rules that a statement breaks, in an int function or not, in a loop or not: break and continue outside a loop are
-- Kind
abbrev mutual
  pub stmt_faults : Bool → Bool → Spot → RawStmtTree → List Fault
  stmt_faults gives loop s (RawDo p) = simple_faults s p
  stmt_faults gives loop s RawEmpty = []
  stmt_faults gives loop s (RawBlock ps) = stmts_faults gives loop (inside s) ps
  stmt_faults gives loop s (RawIf c p) = expr_faults s.names c ++ stmt_faults gives loop (inside s) p
  stmt_faults gives loop s (RawIfElse c p r) = expr_faults s.names c ++ (stmt_faults gives loop (inside s) p ++ stmt_faults gives loop (inside (left s (stmt_after (inside s) p))) r)
  stmt_faults gives loop s (RawWhile c p) = expr_faults s.names c ++ stmt_faults gives true (inside s) p
  stmt_faults gives loop s (RawFor init c step p) =
      simples_faults (inside s) init
      ++ (condition_faults (simples_after (inside s) init).names c
      ++ (step_faults (simples_after (inside s) init) step
      ++ stmt_faults gives true (inside (step_after (simples_after (inside s) init) step)) p))
  stmt_faults gives loop s (RawBreak at) = broken (not loop) at Rule.Kind
  stmt_faults gives loop s (RawContinue at) = broken (not loop) at Rule.Kind
  stmt_faults gives loop s (RawReturn at v) = return_faults gives s.names at v

  pub stmts_faults : Bool → Bool → Spot → RawStmtTrees → List Fault
  stmts_faults gives loop s NoRawStmts = []
  stmts_faults gives loop s (RawThen p ps) = stmt_faults gives loop s p ++ stmts_faults gives loop (stmt_after s p) ps

-- a statement with numbers in place of names
abbrev mutual
  pub stmt_of : Spot → RawStmtTree → StmtTree
  stmt_of s (RawDo p) = Do (simple_of s p)
  stmt_of s RawEmpty = Empty
  stmt_of s (RawBlock ps) = Block (stmts_of (inside s) ps)
  stmt_of s (RawIf c p) = If (expr_of s.names c) (stmt_of (inside s) p)
  stmt_of s (RawIfElse c p r) = IfElse (expr_of s.names c) (stmt_of (inside s) p) (stmt_of (inside (left s (stmt_after (inside s) p))) r)
  stmt_of s (RawWhile c p) = While (expr_of s.names c) (stmt_of (inside s) p)
  stmt_of s (RawFor init c step p) =
      For (simples_of (inside s) init) (option_map (expr_of (simples_after (inside s) init).names) c)
      (option_map (simple_of (simples_after (inside s) init)) step)
      (stmt_of (inside (step_after (simples_after (inside s) init) step)) p)
  stmt_of s (RawBreak at) = Break
  stmt_of s (RawContinue at) = Continue
  stmt_of s (RawReturn at v) = Return (returned_of s v)

  pub stmts_of : Spot → RawStmtTrees → StmtTrees
  stmts_of s NoRawStmts = NoStmts
  stmts_of s (RawThen p ps) = Then (stmt_of s p) (stmts_of (stmt_after s p) ps)
