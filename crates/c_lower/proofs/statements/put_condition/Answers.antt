use Rattle.c_lower.proofs.Common.{◌≡◌, ◌+◌, length, arith, expr_tree, expr_size, expr_code}
use Rattle.c_lower.proofs.CodeSizes.{expr_length}
use Rattle.c_lower.proofs.ExprGlue.{grown}
use Rattle.c_lower.proofs.statements.put_condition.Goals as goal

pub returns-clause-to : goal.returns-clause-to
returns-clause-to c =
    let c0 = c.args.code.now.items in
    let e = expr_tree c.args.condition.now in
    let after : length c.put_expr.new.code.items ≡ length c0 + expr_size e = grown c0 c.put_expr.new.code.items (expr_code e (length c0) c.args.t) (expr_size e) c.in_ok-put_expr.ensures (expr_length e (length c0) c.args.t) in
    omega arith
