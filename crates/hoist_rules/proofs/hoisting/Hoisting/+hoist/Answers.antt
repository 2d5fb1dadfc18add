use Rattle.hoist_rules.proofs.Common.{◌≡◌, ◌+◌, [], ◌∷◌, ◌++◌, ◌∙◌, refl, map, drop, nat_lt, sym, ap, arith, map_push, drop_all, RawConditional, RawCall, RawTableCall, name_tree, raw_expr_tree, raw_expr_trees, raw_chained, drop_at, raw_operand_tree, raw_expr_tree-Number, raw_expr_tree-Name, raw_expr_tree-Chain, raw_expr_tree-Conditional, raw_expr_tree-Call, raw_expr_tree-TableCall, calls_among, declared, set_to, before, left_of, in_block, chain_tree, operand_trees, no_left, no_before, no_names, Received, then_all, then_else, then_close}
use Rattle.hoist_rules.proofs.Followed.{then_none, closed_both}
use Rattle.hoist_rules.proofs.Operands as operand
use Rattle.hoist_rules.proofs.CallTurns as calling
use Rattle.hoist_rules.proofs.OperatorTurns as joined
use Rattle.hoist_rules.proofs.ArgumentTurns as argument
use Rattle.hoist_rules.proofs.hoisting.Hoisting.+hoist.Goals as goal

pub expression-returns-in_ok-whole-in-Chain-clause-left : goal.expression-returns-in_ok-whole-in-Chain-clause-left
expression-returns-in_ok-whole-in-Chain-clause-left g t c =
    let first = c.in-Chain.first in
    let rest = c.in-Chain.rest in
    let l = raw_expr_tree c.in_ok-operand-in-Chain.operand in
    let whole : raw_expr_tree c.args.raw.now ≡ raw_chained (raw_expr_tree first.value) (operand_trees rest.items) =
    ap raw_expr_tree c.in-Chain.is ∙ raw_expr_tree-Chain first rest ∙ ap (raw_chained (raw_expr_tree first.value)) (sym (operand.operands_seen rest.items)) in
    let made = rw (c.of-left.ensures, c.deref-in-Chain-3.ensures.value) at c.in_ok-chain-in-Chain.ensures.left in
    operand.chain_left c.args.self.now.next c.expression-in-Chain.new.self.next c.is_left_alone.result (raw_expr_tree c.args.raw.now) (raw_expr_tree first.value) l
    (chain_tree c.in_ok-chain-in-Chain.chain) (raw_expr_tree c.in_ok-whole-in-Chain.field-0) (operand_trees rest.items)
    whole (rw (← c.deref-in-Chain.ensures) c.in_ok-operand-in-Chain.ensures.left)
    (rw (← c.deref-in-Chain.ensures) c.in_ok-operand-in-Chain.ensures.next) (rw (← c.deref-in-Chain-2.ensures) c.is_left_alone.ensures)
    made c.in_ok-whole-in-Chain.ensures

pub expression-returns-in_ok-whole-in-Chain-clause-before : goal.expression-returns-in_ok-whole-in-Chain-clause-before
expression-returns-in_ok-whole-in-Chain-clause-before g t c =
    let first = c.in-Chain.first in
    let rest = c.in-Chain.rest in
    let l = raw_expr_tree c.in_ok-operand-in-Chain.operand in
    let whole : raw_expr_tree c.args.raw.now ≡ raw_chained (raw_expr_tree first.value) (operand_trees rest.items) =
    ap raw_expr_tree c.in-Chain.is ∙ raw_expr_tree-Chain first rest ∙ ap (raw_chained (raw_expr_tree first.value)) (sym (operand.operands_seen rest.items)) in
    let made = rw (c.of-left.ensures, c.deref-in-Chain-3.ensures.value) at c.in_ok-chain-in-Chain.ensures.before in
    operand.chain_before c.args.self.now.next c.expression-in-Chain.new.self.next c.is_left_alone.result (raw_expr_tree c.args.raw.now) (raw_expr_tree first.value) l (operand_trees rest.items)
    (g.R.Receive.so_far c.args.self.now.receiver) (g.R.Receive.so_far c.expression-in-Chain.new.self.receiver) (g.R.Receive.so_far c.operands.new.self.receiver)
    whole (rw (← c.deref-in-Chain.ensures) c.in_ok-operand-in-Chain.ensures.left)
    (rw (← c.deref-in-Chain.ensures) c.in_ok-operand-in-Chain.ensures.next) (rw (← c.deref-in-Chain-2.ensures) c.is_left_alone.ensures)
    (rw (← c.deref-in-Chain.ensures) c.in_ok-operand-in-Chain.ensures.before) made

pub expression-returns-in_ok-whole-in-Chain-clause-next : goal.expression-returns-in_ok-whole-in-Chain-clause-next
expression-returns-in_ok-whole-in-Chain-clause-next g t c =
    let first = c.in-Chain.first in
    let rest = c.in-Chain.rest in
    let whole : raw_expr_tree c.args.raw.now ≡ raw_chained (raw_expr_tree first.value) (operand_trees rest.items) =
    ap raw_expr_tree c.in-Chain.is ∙ raw_expr_tree-Chain first rest ∙ ap (raw_chained (raw_expr_tree first.value)) (sym (operand.operands_seen rest.items)) in
    operand.chain_after c.args.self.now.next c.expression-in-Chain.new.self.next c.operands.new.self.next c.is_left_alone.result
    (raw_expr_tree c.args.raw.now) (raw_expr_tree first.value) (operand_trees rest.items)
    whole (rw (← c.deref-in-Chain.ensures) c.in_ok-operand-in-Chain.ensures.next) (rw (← c.deref-in-Chain-2.ensures) c.is_left_alone.ensures)
    (rw c.deref-in-Chain-3.ensures.value at c.in_ok-chain-in-Chain.ensures.next)

pub operands-loop-operator-preserved : goal.operands-loop-operator-preserved
operands-loop-operator-preserved g t c =
    let at = c.loop-operator in
    let item = c.loop-operator-item.result in
    let i = at.operator-index in
    let rest = operand_trees (drop (i + 1) c.args.rest.now) in
    let cut : drop i c.args.rest.now ≡ item ∷ drop (i + 1) c.args.rest.now = drop_at c.args.rest.now i item c.loop-operator-test.true c.loop-operator-item.is in
    let p = raw_operand_tree item in
    let made = c.in_ok-left.ensures in
    record {
      left = operand.turn_left at.self.next c.operand.new.self.next at.is_alone (chain_tree at.left) (chain_tree c.in_ok-left.left) _ p rest made.left made.next (rw cut at at.invariant.left);
      before = operand.turn_before at.self.next c.operand.new.self.next at.is_alone (chain_tree at.left) (chain_tree c.in_ok-left.left) p rest _ _ _
          made.before made.left made.next (rw cut at at.invariant.before);
      next = operand.turn_after at.self.next c.operand.new.self.next at.is_alone p rest _ made.next (rw cut at at.invariant.next);
    }

pub arguments-loop-argument-preserved : goal.arguments-loop-argument-preserved
arguments-loop-argument-preserved g t c =
    let at = c.loop-argument in
    let item = c.argument-item.result in
    let i = at.argument-index in
    let raw = c.args.raw.now in
    let e = raw_expr_tree item in
    let es = raw_expr_trees (drop (i + 1) raw) in
    let cut : drop i raw ≡ item ∷ drop (i + 1) raw = drop_at raw i item c.loop-argument-test.true c.argument-item.is in
    let count : at.calls ≡ calls_among (raw_expr_trees (item ∷ drop (i + 1) raw)) = rw cut at at.invariant.calls in
    let rest : c.calls_after-calls.result ≡ calls_among es = omega (arith, count, c.calls_after-calls.ensures) in
    let later = ap (λ n. nat_lt 0 n) rest ∙ argument.some_hold es in
    let made = c.in_ok-left.ensures in
    record {
      left = rw (c.in_ok-push.ensures.items, map_push raw_expr_tree at.arguments.items c.in_ok-left.left)
          (argument.turn_left at.stays _ at.self.next c.argument.new.self.next (map raw_expr_tree at.arguments.items) (raw_expr_tree c.in_ok-left.left) e es _
          later made.left made.next (rw cut at at.invariant.left));
      before = argument.turn_before at.stays _ at.self.next c.argument.new.self.next e es _ _ _ later made.before made.next (rw cut at at.invariant.before);
      next = argument.turn_after at.stays _ at.self.next c.argument.new.self.next _ e es later made.next (rw cut at at.invariant.next);
      calls = rest;
    }

pub arguments-returns-clause-left : goal.arguments-returns-clause-left
arguments-returns-clause-left g t c =
    let at = c.loop-argument in
    let none : drop at.argument-index c.args.raw.now ≡ [] = drop_all at.argument-index c.args.raw.now c.loop-argument-test.false in
    argument.done_left at.stays at.self.next (map raw_expr_tree at.arguments.items) (raw_expr_trees (drop at.argument-index c.args.raw.now)) _ (ap raw_expr_trees none) at.invariant.left

pub kept-returns-clause-kept : goal.kept-returns-clause-kept
kept-returns-clause-kept g t c = c.in_ok-expression.ensures.left ∙ no_left c.args.self.now.next (raw_expr_tree c.args.raw.now) c.requires

pub kept-returns-clause-outer : goal.kept-returns-clause-outer
kept-returns-clause-outer g t c =
    let before = g.R.Receive.so_far c.args.self.now.receiver in
    c.in_ok-expression.ensures.before ∙ ap (then_all before) (no_before c.args.self.now.next (raw_expr_tree c.args.raw.now) c.requires) ∙ then_none before

pub kept-returns-clause-next : goal.kept-returns-clause-next
kept-returns-clause-next g t c = let none = no_names (raw_expr_tree c.args.raw.now) c.requires in omega (arith, c.in_ok-expression.ensures.next, none)

pub operand-returns-in_ok-with-in-Ok-clause-left : goal.operand-returns-in_ok-with-in-Ok-clause-left
operand-returns-in_ok-with-in-Ok-clause-left g t c =
    joined.plain_left c.args.self.now.next _ c.args.operator _ c.args.is_alone _ (chain_tree c.args.left) (raw_expr_tree c.args.right.now) _ _ _
    c.holds_call-is_calling.ensures (sym c.is_branching.ensures ∙ c.if-is_branching.false) c.needs_name.ensures
    c.in_ok-left.ensures.left c.in_ok-left.ensures.next c.in-Ok.ensures.left c.in_ok-with-in-Ok.ensures

pub operand-returns-in_ok-with-in-Ok-clause-before : goal.operand-returns-in_ok-with-in-Ok-clause-before
operand-returns-in_ok-with-in-Ok-clause-before g t c =
    joined.plain_before c.args.self.now.next _ c.args.operator _ c.args.is_alone _ (chain_tree c.args.left) (raw_expr_tree c.args.right.now) (g.R.Receive.so_far c.args.self.now.receiver) _ _
    c.holds_call-is_calling.ensures (sym c.is_branching.ensures ∙ c.if-is_branching.false) c.needs_name.ensures c.in_ok-left.ensures.next c.in_ok-left.ensures.before c.in-Ok.ensures.before

pub expression-returns-in_ok-name_part-in-Call-clause-before : goal.expression-returns-in_ok-name_part-in-Call-clause-before
expression-returns-in_ok-name_part-in-Call-clause-before g t c =
    let seen : raw_expr_tree c.args.raw.now ≡ RawCall (name_tree c.in-Call.name) (raw_expr_trees c.in-Call.arguments.items) =
    ap raw_expr_tree c.in-Call.is ∙ raw_expr_tree-Call c.in-Call.name c.in-Call.arguments in
    let made = c.in_ok-arguments-in-Call.ensures in
    calling.call_pushed c.args.self.now.next _ _ (raw_expr_tree c.args.raw.now) _ (name_tree c.in-Call.name) (raw_expr_trees c.in-Call.arguments.items) _ _ (g.R.Receive.so_far c.args.self.now.receiver) _ _
    seen c.is_spawn.ensures (ap raw_expr_trees c.deref-in-Call.ensures.value) made.left made.before made.next c.in_ok-call-in-Call.ensures c.in_ok-name_part-in-Call.ensures.statements

pub expression-returns-in_ok-name_part-in-Ok-expression-clause-before : goal.expression-returns-in_ok-name_part-in-Ok-expression-clause-before
expression-returns-in_ok-name_part-in-Ok-expression-clause-before g t c =
    let i = raw_expr_tree c.in-TableCall.index.value in
    let e = raw_expr_tree c.in-TableCall.argument.value in
    let seen : raw_expr_tree c.args.raw.now ≡ RawTableCall (name_tree c.in-TableCall.name) i e =
    ap raw_expr_tree c.in-TableCall.is ∙ raw_expr_tree-TableCall c.in-TableCall.name c.in-TableCall.index c.in-TableCall.argument in
    let part = c.in_ok-index-in-TableCall.ensures in
    let rest = c.in-Ok-expression.ensures in
    calling.table_pushed c.args.self.now.next _ _ _ (raw_expr_tree c.args.raw.now) _ (name_tree c.in-TableCall.name) i e _ _ _ _ _ (g.R.Receive.so_far c.args.self.now.receiver) _ _ _
    seen (ap raw_expr_tree c.deref-in-TableCall.ensures) (ap raw_expr_tree c.deref-in-TableCall-3.ensures) (ap raw_expr_tree c.deref-in-TableCall-2.ensures)
    c.holds_call.ensures part.left part.before part.next rest.left rest.before rest.next c.in_ok-call-in-Ok-expression.ensures c.in_ok-name_part-in-Ok-expression.ensures.statements

pub expression-returns-in_ok-choice-in-Ok-kept-clause-next : goal.expression-returns-in_ok-choice-in-Ok-kept-clause-next
expression-returns-in_ok-choice-in-Ok-kept-clause-next g t c =
    let condition = raw_expr_tree c.in-Conditional.condition.value in
    let first = raw_expr_tree c.in-Conditional.then.value in
    let second = raw_expr_tree c.in-Conditional.otherwise.value in
    let seen : raw_expr_tree c.args.raw.now ≡ RawConditional condition first second =
    ap raw_expr_tree c.in-Conditional.is ∙ raw_expr_tree-Conditional c.in-Conditional.condition c.in-Conditional.then c.in-Conditional.otherwise in
    calling.kept_names c.args.self.now.next _ _ _ _ (raw_expr_tree c.args.raw.now) condition first second _ _ _
    seen (ap raw_expr_tree c.deref-in-Conditional-3.ensures) (ap raw_expr_tree c.deref-in-Conditional.ensures) (ap raw_expr_tree c.deref-in-Conditional-2.ensures)
    c.either_holds_call-is_branched.ensures c.if-is_branched.false c.in_ok-condition-in-Conditional.ensures.next c.in-Ok.ensures.next c.in-Ok-kept.ensures.next

pub expression-returns-in-Number-clause-before : goal.expression-returns-in-Number-clause-before
expression-returns-in-Number-clause-before g t c =
    let s = g.R.Receive.so_far c.args.self.now.receiver in
    sym (then_none s) ∙ ap (λ e. then_all s (before c.args.self.now.next e)) (sym (ap raw_expr_tree c.in-Number.is ∙ raw_expr_tree-Number c.in-Number.value))

pub expression-returns-in_ok-copied-in-Name-clause-before : goal.expression-returns-in_ok-copied-in-Name-clause-before
expression-returns-in_ok-copied-in-Name-clause-before g t c =
    let s = g.R.Receive.so_far c.args.self.now.receiver in
    sym (then_none s) ∙ ap (λ e. then_all s (before c.args.self.now.next e)) (sym (ap raw_expr_tree c.in-Name.is ∙ raw_expr_tree-Name c.in-Name.name))

pub expression-returns-in_ok-used-in-Conditional-clause-before : goal.expression-returns-in_ok-used-in-Conditional-clause-before
expression-returns-in_ok-used-in-Conditional-clause-before g t c =
    let condition = raw_expr_tree c.in-Conditional.condition.value in
    let first = raw_expr_tree c.in-Conditional.then.value in
    let second = raw_expr_tree c.in-Conditional.otherwise.value in
    let seen : raw_expr_tree c.args.raw.now ≡ RawConditional condition first second =
    ap raw_expr_tree c.in-Conditional.is ∙ raw_expr_tree-Conditional c.in-Conditional.condition c.in-Conditional.then c.in-Conditional.otherwise in
    let test = c.in_ok-condition-in-Conditional.ensures in
    let x = raw_expr_tree c.in_ok-condition-in-Conditional.condition in
    let n = c.expression-in-Conditional.new.self.next in
    let m = c.open_choice.new.self.next in
    let o = c.otherwise.new.self.next in
    let number = c.in_ok-number-in-Conditional.number in
    let a = raw_expr_tree c.deref-then-is_branched.result.now in
    let b = raw_expr_tree c.deref-then-is_branched-2.result.now in
    let p = in_block (before m a ++ set_to number (left_of m a) ∷ []) in
    let q = in_block (before o b ++ set_to number (left_of o b) ∷ []) in
    let declaration : Received = then_all (g.R.Receive.so_far c.expression-in-Conditional.new.self.receiver) (declared n ∷ []) in
    let one = c.in_ok-branch-in-Conditional.ensures in
    let other = c.in_ok-branch-in-Conditional-2.ensures in
    let opened = c.in_ok-number-in-Conditional.ensures.statements in
    let turned = c.in_ok-otherwise-in-Conditional.ensures.statements ∙ ap then_else (one.statements ∙ ap (λ r. then_all r (p ∷ [])) opened) in
    let closed = c.in_ok-close-in-Conditional.ensures.statements ∙ ap then_close (other.statements ∙ ap (λ r. then_all r (q ∷ [])) turned) in
    calling.chosen_pushed c.args.self.now.next n m o number _ (raw_expr_tree c.args.raw.now) condition first second _ _ _ _ _ x p q
    (g.R.Receive.so_far c.args.self.now.receiver) (g.R.Receive.so_far c.expression-in-Conditional.new.self.receiver) declaration (g.R.Receive.so_far c.close.new.self.receiver)
    seen (ap raw_expr_tree c.deref-in-Conditional-3.ensures) (ap raw_expr_tree c.deref-in-Conditional.ensures)
    (ap raw_expr_tree c.deref-then-is_branched.ensures) (ap raw_expr_tree c.deref-in-Conditional-2.ensures) (ap raw_expr_tree c.deref-then-is_branched-2.ensures)
    c.either_holds_call-is_branched.ensures c.if-is_branched.true test.left test.before test.next
    c.in_ok-number-in-Conditional.ensures.number refl c.in_ok-number-in-Conditional.ensures.next refl (c.in_ok-otherwise-in-Conditional.ensures.next ∙ one.next) refl
    (closed ∙ closed_both x declaration (p ∷ []) (q ∷ []))
