-- The tree of a statement, form by form.
use Rattle.c_tree.proofs.Common.{◌≡◌, map, sym, ap, ◌∙◌, Box, Vec, Option, option_map, Global, Expr, StmtTree, expr_tree, right_tree, simple_tree, stmt_step, stmt_tree, stmt_trees}
use Rattle.c_tree.specs.declared.statements.ForParts.{ForParts}
use Rattle.c_tree.specs.declared.statements.RightSide.{RightSide}
use Rattle.c_tree.specs.declared.statements.Simple.{Simple}
use Rattle.c_tree.specs.declared.statements.Stmt.{Stmt}
use Rattle.c_tree.specs.declared.statements.Stmt.TheViews as code
use Rattle.c_tree.specs.declared.statements.Stmt.TheFolds.{fold-roll-Stmt}
use Rattle.c_tree.specs.declared.statements.Stmt.TheVariants.{rolls-Simple, rolls-Block, rolls-If, rolls-IfElse, rolls-While, rolls-For, rolls-Break, rolls-Continue, rolls-Return}
use Rattle.c_tree.specs.Trees as plain

pub stmt_tree-Simple : (s : Simple) → stmt_tree (Stmt.Simple s) ≡ plain.Do (simple_tree s)
stmt_tree-Simple s = ap stmt_tree (sym (rolls-Simple s)) ∙ fold-roll-Stmt StmtTree stmt_step _

pub stmt_tree-Block : (ss : Vec Stmt Global) → stmt_tree (code.Block ss) ≡ plain.Block (stmt_trees ss.items)
stmt_tree-Block ss = ap stmt_tree (sym (rolls-Block ss)) ∙ fold-roll-Stmt StmtTree stmt_step _

pub stmt_tree-If : (c : Expr) (s : Box Stmt Global) → stmt_tree (code.If c s) ≡ plain.If (expr_tree c) (stmt_tree s.value)
stmt_tree-If c s = ap stmt_tree (sym (rolls-If c s)) ∙ fold-roll-Stmt StmtTree stmt_step _

pub stmt_tree-IfElse : (c : Expr) (s r : Box Stmt Global) → stmt_tree (code.IfElse c s r) ≡ plain.IfElse (expr_tree c) (stmt_tree s.value) (stmt_tree r.value)
stmt_tree-IfElse c s r = ap stmt_tree (sym (rolls-IfElse c s r)) ∙ fold-roll-Stmt StmtTree stmt_step _

pub stmt_tree-While : (c : Expr) (s : Box Stmt Global) → stmt_tree (code.While c s) ≡ plain.While (expr_tree c) (stmt_tree s.value)
stmt_tree-While c s = ap stmt_tree (sym (rolls-While c s)) ∙ fold-roll-Stmt StmtTree stmt_step _

pub stmt_tree-For : (parts : Box ForParts Global) (s : Box Stmt Global) → stmt_tree (code.For parts s) ≡ plain.For (map simple_tree parts.value.init.items) (option_map expr_tree parts.value.condition) (option_map simple_tree parts.value.step) (stmt_tree s.value)
stmt_tree-For parts s = ap stmt_tree (sym (rolls-For parts s)) ∙ fold-roll-Stmt StmtTree stmt_step _

pub stmt_tree-Break : stmt_tree Stmt.Break ≡ plain.Break
stmt_tree-Break = ap stmt_tree (sym rolls-Break) ∙ fold-roll-Stmt StmtTree stmt_step _

pub stmt_tree-Continue : stmt_tree Stmt.Continue ≡ plain.Continue
stmt_tree-Continue = ap stmt_tree (sym rolls-Continue) ∙ fold-roll-Stmt StmtTree stmt_step _

pub stmt_tree-Return : (v : Option RightSide) → stmt_tree (Stmt.Return v) ≡ plain.Return (option_map right_tree v)
stmt_tree-Return v = ap stmt_tree (sym (rolls-Return v)) ∙ fold-roll-Stmt StmtTree stmt_step _
