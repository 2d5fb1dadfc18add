use Rattle.std.proofs.Common.{refl}
use Rattle.c_tree.proofs.ExprEquations.{expr_tree-Local}
use Rattle.c_tree.proofs.StmtEquations.{stmt_tree-Return}
use Rattle.reader_rows.proofs.trees.identity.Goals as goal

pub returns : goal.returns
returns c = rw (c.in_ok-name.ensures.items, c.in_ok-sizes.ensures.items, c.in_ok-body.ensures.items, stmt_tree-Return, expr_tree-Local) refl
