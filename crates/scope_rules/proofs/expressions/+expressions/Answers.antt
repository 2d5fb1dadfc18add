use Rattle.scope_rules.proofs.Common.{◌≡◌, ◌∷◌, ◌++◌, ◌+◌, drop, append_assoc, raw_expr_tree, raw_expr_tree-Chain, raw_expr_tree-Conditional, expr_tree-Chain, expr_faults, operands_faults, drop_at}
use Rattle.scope_rules.proofs.Least.{least_of_append, least_of_then}
use Rattle.scope_rules.proofs.Chains.{chain_of, chain_faults, operand_trees_map, operand_pushed}
use Rattle.scope_rules.proofs.HeldValues.{pushed_pair_fact}
use Rattle.scope_rules.proofs.expressions.+expressions.Goals as goal

pub expr-returns-in_ok-first-in-Chain-2-clause-tree : goal.expr-returns-in_ok-first-in-Chain-2-clause-tree
expr-returns-in_ok-first-in-Chain-2-clause-tree t c =
    let r = rw c.in_ok-first-in-Chain-2.ensures.next at c.operands.ensures.tree in
    rw (c.in-Chain.is, raw_expr_tree-Chain c.in-Chain.first c.in-Chain.rest, expr_tree-Chain c.in_ok-first-in-Chain-2.first c.in_ok-first-in-Chain-2.rest, chain_of c.args.names.now (raw_expr_tree c.in-Chain.first.value) c.in-Chain.rest.items, operand_trees_map c.in_ok-first-in-Chain-2.rest.items) (cc (r, c.in_ok-first-in-Chain-2.ensures.before, c.in_ok-first-in-Chain.ensures.tree, c.deref-in-Chain.ensures, c.deref-in-Chain-2.ensures.value))

pub expr-returns-in_ok-first-in-Chain-2-clause-faults : goal.expr-returns-in_ok-first-in-Chain-2-clause-faults
expr-returns-in_ok-first-in-Chain-2-clause-faults t c =
    let r = rw c.in_ok-first-in-Chain-2.ensures.next at c.operands.ensures.faults in
    rw (c.in-Chain.is, raw_expr_tree-Chain c.in-Chain.first c.in-Chain.rest, chain_faults c.args.names.now c.args.least.now (raw_expr_tree c.in-Chain.first.value) c.in-Chain.rest.items) (cc (r, c.in_ok-first-in-Chain.ensures.faults, c.deref-in-Chain.ensures, c.deref-in-Chain-2.ensures.value))

pub expr-returns-in_ok-condition-in-Conditional-2-clause-faults : goal.expr-returns-in_ok-condition-in-Conditional-2-clause-faults
expr-returns-in_ok-condition-in-Conditional-2-clause-faults t c =
    let names = c.args.names.now in
    let fc = expr_faults names (raw_expr_tree c.deref-in-Conditional.result.now) in
    let ft = expr_faults names (raw_expr_tree c.deref-in-Conditional-2.result.now) in
    let fo = expr_faults names (raw_expr_tree c.deref-in-Conditional-3.result.now) in
    let then = rw c.in_ok-before-in-Conditional.ensures.next at c.boxed_expr-in-Conditional-2.ensures.faults in
    let otherwise = rw c.in_ok-condition-in-Conditional-2.ensures.next at c.boxed_expr-in-Conditional-3.ensures.faults in
    rw (c.in-Conditional.is, raw_expr_tree-Conditional c.in-Conditional.condition c.in-Conditional.then c.in-Conditional.otherwise, ← c.deref-in-Conditional.ensures, ← c.deref-in-Conditional-2.ensures, ← c.deref-in-Conditional-3.ensures)
    (least_of_then c.args.least.now c.boxed_expr-in-Conditional-2.new.least c.boxed_expr-in-Conditional-3.new.least (fc ++ ft) fo
    (least_of_then c.args.least.now c.boxed_expr-in-Conditional.new.least c.boxed_expr-in-Conditional-2.new.least fc ft c.in_ok-condition-in-Conditional.ensures.faults then)
    otherwise)

pub operands-loop-operator-preserved : goal.operands-loop-operator-preserved
operands-loop-operator-preserved t c =
    let item = c.loop-operator-item.result in
    let rest = c.args.rest.now in
    let i = c.loop-operator.operator-index in
    let names = c.args.names.now in
    let cut : drop i rest ≡ item ∷ drop (i + 1) rest = drop_at rest i item c.loop-operator-test.true c.loop-operator-item.is in
    let pushed = operand_pushed c.expr.result c.both-next.result c.loop-operator.operands.items c.in_ok-operands-2.operands.items item.0 _ c.in_ok-operands-2.ensures c.both-next.ensures.before c.both-next.ensures.next c.expr.ensures.tree in
    let fault = pushed_pair_fact _ _ c.expr.result c.both-next.result c.in_ok-operands-2.ensures c.both-next.ensures.next c.expr.ensures.faults in
    record {
      trees = rw (pushed, append_assoc) (rw cut at c.loop-operator.invariant.trees);
      faults = rw (fault, ← least_of_append c.loop-operator.least (expr_faults names (raw_expr_tree item.1)) (operands_faults names (drop (i + 1) rest))) (rw cut at c.loop-operator.invariant.faults);
    }
