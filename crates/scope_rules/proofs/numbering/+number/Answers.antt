use borrow.Enum.Known.{ValuesAt}
use borrow.Enum.Total.{values_o, values_o_at, values_d, values_d_at}
use Rattle.scope_rules.proofs.Common.{refl, ap, map, sym, ◌∙◌, arith, option_map, Stmt, ForParts, simple_tree, stmt_tree, in_order, stmt_tree-If, stmt_tree-IfElse, stmt_tree-While, stmt_tree-For, simple_numbered, stmt_numbered}
use Rattle.c_tree.specs.contracts.statements.Stmt.{enum}
use Rattle.scope_rules.proofs.MappedLists.{changed_more, changed_all, left_more}
use Rattle.scope_rules.proofs.NumberedLists.{numbered_in_order, if_numbered, if_else_numbered, while_numbered, for_numbered}
use Rattle.scope_rules.proofs.numbering.+number.Goals as goal

pub number_stmt-returns-in-If : goal.number_stmt-returns-in-If
number_stmt-returns-in-If t c =
    let ns = c.args.numbers.now in
    let e = c.number_stmt.ensures ∙ ap (λ x. stmt_numbered ns (stmt_tree x)) (c.deref_mut-in-If.ensures.value ∙ ap (λ b. b.value) c.in-If.then-is) in
    let there = ap (values_o enum 3) c.in-If.is ∙ values_o_at enum 3 (c.in-If.condition, (c.in-If.then, tt {0})) in
    rw there (stmt_tree-If _ _ ∙ if_numbered ns c.args.stmt.now c.in-If.condition c.in-If.condition c.in-If.then c.number_stmt.new.stmt c.in-If.is refl e)

pub number_stmt-returns-in-IfElse : goal.number_stmt-returns-in-IfElse
number_stmt-returns-in-IfElse t c =
    let ns = c.args.numbers.now in
    let e = c.number_stmt-in-IfElse.ensures ∙ ap (λ x. stmt_numbered ns (stmt_tree x)) (c.deref_mut-in-IfElse.ensures.value ∙ ap (λ b. b.value) c.in-IfElse.then-is) in
    let f = c.number_stmt-in-IfElse-2.ensures ∙ ap (λ x. stmt_numbered ns (stmt_tree x)) (c.deref_mut-in-IfElse-2.ensures.value ∙ ap (λ b. b.value) c.in-IfElse.otherwise-is) in
    let given : ValuesAt enum.parts 4 = (c.in-IfElse.condition, (c.in-IfElse.then, (c.in-IfElse.otherwise, tt {0}))) in
    let there = ap (λ (s : Stmt). (values_d enum 4 given s).0) c.in-IfElse.is ∙ ap (λ v. v.0) (values_d_at enum 4 given given) in
    stmt_tree-IfElse _ _ _
    ∙ if_else_numbered ns c.args.stmt.now c.in-IfElse.condition _ c.in-IfElse.then c.in-IfElse.otherwise c.number_stmt-in-IfElse.new.stmt c.number_stmt-in-IfElse-2.new.stmt c.in-IfElse.is there e f

pub number_stmt-returns-in-While : goal.number_stmt-returns-in-While
number_stmt-returns-in-While t c =
    let ns = c.args.numbers.now in
    let e = c.number_stmt-in-While.ensures ∙ ap (λ x. stmt_numbered ns (stmt_tree x)) (c.deref_mut-in-While.ensures.value ∙ ap (λ b. b.value) c.in-While.body-is) in
    let there = ap (values_o enum 5) c.in-While.is ∙ values_o_at enum 5 (c.in-While.condition, (c.in-While.body, tt {0})) in
    rw there (stmt_tree-While _ _ ∙ while_numbered ns c.args.stmt.now c.in-While.condition c.in-While.condition c.in-While.body c.number_stmt-in-While.new.stmt c.in-While.is refl e)

pub number_stmt-returns-in-For : goal.number_stmt-returns-in-For
number_stmt-returns-in-For t c =
    let ns = c.args.numbers.now in
    let was = c.deref_mut-in-For.ensures.value ∙ ap (λ b. b.value) c.in-For.parts-is in
    let init = c.number_parts.ensures.init ∙ ap (λ (p : ForParts). map (simple_numbered ns) (map simple_tree p.init.items)) was in
    let condition = c.number_parts.ensures.condition ∙ ap (λ (p : ForParts). p.condition) was in
    let step = c.number_parts.ensures.step ∙ ap (λ (p : ForParts). option_map (simple_numbered ns) (option_map simple_tree p.step)) was in
    let body = c.number_stmt-in-For.ensures ∙ ap (λ x. stmt_numbered ns (stmt_tree x)) (c.deref_mut-in-For-2.ensures.value ∙ ap (λ b. b.value) c.in-For.body-is) in
    stmt_tree-For _ _
    ∙ for_numbered ns c.args.stmt.now c.in-For.parts c.in-For.body c.number_parts.new.parts c.number_stmt-in-For.new.stmt c.in-For.is init condition step body

pub number_stmts-loop-i-preserved : goal.number_stmts-loop-i-preserved
number_stmts-loop-i-preserved t c =
    let ns = c.args.numbers.now in (
      left_more c.args.stmts.now c.loop-i.stmts c.loop-i.i c.number_stmt.new.stmt c.loop-i.invariant.0,
      changed_more stmt_tree (stmt_numbered ns) c.args.stmts.now c.loop-i.stmts c.loop-i.i c.index-stmts-i.result c.number_stmt.new.stmt
          (omega arith) c.loop-i.auto.stmts c.loop-i.invariant.1 c.index-stmts-i.is (c.number_stmt.ensures ∙ ap (λ x. stmt_numbered ns (stmt_tree x)) (sym c.index-stmts-i.is)),
    )

pub number_stmts-returns : goal.number_stmts-returns
number_stmts-returns t c =
    ap in_order (changed_all stmt_tree (stmt_numbered c.args.numbers.now) c.loop-i.i c.args.stmts.now c.loop-i.stmts (omega arith) c.loop-i.invariant.1)
    ∙ numbered_in_order c.args.numbers.now (map stmt_tree c.args.stmts.now)
