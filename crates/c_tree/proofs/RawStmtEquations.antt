-- The tree of a statement as it is read, form by form.
use Rattle.c_tree.proofs.Common.{◌≡◌, ℕ, map, sym, ap, ◌∙◌, Box, Vec, Option, option_map, Global, RawExpr, RawStmtTree, RawDo, RawEmpty, RawBlock, RawIf, RawIfElse, RawWhile, RawFor, RawBreak, RawContinue, RawReturn, raw_expr_tree, raw_simple_tree, raw_stmt_step, raw_stmt_tree, raw_stmt_trees}
use Rattle.c_tree.specs.declared.raw_statements.RawForParts.{RawForParts}
use Rattle.c_tree.specs.declared.raw_statements.RawSimple.{RawSimple}
use Rattle.c_tree.specs.declared.raw_statements.RawStmt.{RawStmt}
use Rattle.c_tree.specs.declared.raw_statements.RawStmt.TheViews as code
use Rattle.c_tree.specs.declared.raw_statements.RawStmt.TheFolds.{fold-roll-RawStmt}
use Rattle.c_tree.specs.declared.raw_statements.RawStmt.TheVariants.{rolls-Simple, rolls-Empty, rolls-Block, rolls-If, rolls-IfElse, rolls-While, rolls-For, rolls-Break, rolls-Continue, rolls-Return}

pub raw_stmt_tree-Simple : (s : RawSimple) → raw_stmt_tree (RawStmt.Simple s) ≡ RawDo (raw_simple_tree s)
raw_stmt_tree-Simple s = ap raw_stmt_tree (sym (rolls-Simple s)) ∙ fold-roll-RawStmt RawStmtTree raw_stmt_step _

pub raw_stmt_tree-Empty : raw_stmt_tree RawStmt.Empty ≡ RawEmpty
raw_stmt_tree-Empty = ap raw_stmt_tree (sym rolls-Empty) ∙ fold-roll-RawStmt RawStmtTree raw_stmt_step _

pub raw_stmt_tree-Block : (ss : Vec RawStmt Global) → raw_stmt_tree (code.Block ss) ≡ RawBlock (raw_stmt_trees ss.items)
raw_stmt_tree-Block ss = ap raw_stmt_tree (sym (rolls-Block ss)) ∙ fold-roll-RawStmt RawStmtTree raw_stmt_step _

pub raw_stmt_tree-If : (c : RawExpr) (s : Box RawStmt Global) → raw_stmt_tree (code.If c s) ≡ RawIf (raw_expr_tree c) (raw_stmt_tree s.value)
raw_stmt_tree-If c s = ap raw_stmt_tree (sym (rolls-If c s)) ∙ fold-roll-RawStmt RawStmtTree raw_stmt_step _

pub raw_stmt_tree-IfElse : (c : RawExpr) (s r : Box RawStmt Global) → raw_stmt_tree (code.IfElse c s r) ≡ RawIfElse (raw_expr_tree c) (raw_stmt_tree s.value) (raw_stmt_tree r.value)
raw_stmt_tree-IfElse c s r = ap raw_stmt_tree (sym (rolls-IfElse c s r)) ∙ fold-roll-RawStmt RawStmtTree raw_stmt_step _

pub raw_stmt_tree-While : (c : RawExpr) (s : Box RawStmt Global) → raw_stmt_tree (code.While c s) ≡ RawWhile (raw_expr_tree c) (raw_stmt_tree s.value)
raw_stmt_tree-While c s = ap raw_stmt_tree (sym (rolls-While c s)) ∙ fold-roll-RawStmt RawStmtTree raw_stmt_step _

pub raw_stmt_tree-For : (parts : Box RawForParts Global) (s : Box RawStmt Global) → raw_stmt_tree (code.For parts s) ≡ RawFor (map raw_simple_tree parts.value.init.items) (option_map raw_expr_tree parts.value.condition) (option_map raw_simple_tree parts.value.step) (raw_stmt_tree s.value)
raw_stmt_tree-For parts s = ap raw_stmt_tree (sym (rolls-For parts s)) ∙ fold-roll-RawStmt RawStmtTree raw_stmt_step _

pub raw_stmt_tree-Break : (at : ℕ) → raw_stmt_tree (RawStmt.Break at) ≡ RawBreak at
raw_stmt_tree-Break at = ap raw_stmt_tree (sym (rolls-Break at)) ∙ fold-roll-RawStmt RawStmtTree raw_stmt_step _

pub raw_stmt_tree-Continue : (at : ℕ) → raw_stmt_tree (RawStmt.Continue at) ≡ RawContinue at
raw_stmt_tree-Continue at = ap raw_stmt_tree (sym (rolls-Continue at)) ∙ fold-roll-RawStmt RawStmtTree raw_stmt_step _

pub raw_stmt_tree-Return : (at : ℕ) (v : Option RawExpr) → raw_stmt_tree (RawStmt.Return at v) ≡ RawReturn at (option_map raw_expr_tree v)
raw_stmt_tree-Return at v = ap raw_stmt_tree (sym (rolls-Return at v)) ∙ fold-roll-RawStmt RawStmtTree raw_stmt_step _
