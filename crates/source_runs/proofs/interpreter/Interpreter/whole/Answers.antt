use Rattle.c_tree.proofs.StmtEquations.{stmt_tree-Simple, stmt_tree-If, stmt_tree-IfElse, stmt_tree-While, stmt_tree-Break, stmt_tree-Continue, stmt_tree-Return}
use Rattle.source_runs.proofs.Common.{ap, ◌∙◌, stmt_tree, to_do, tree_of, on_ok_weaker}
use Rattle.c_mean.specs.ToDo as todo
use Rattle.source_runs.proofs.Moved.{goes-with, pushed-so}
use Rattle.source_runs.proofs.Scopes.{do-scoped, empty-scoped, if-condition, if-first, else-condition, else-first, else-second, while-condition, return-scoped}
use Rattle.source_runs.proofs.interpreter.Interpreter.whole.Goals as goal

pub perform_simple-requires-clause-scoped : goal.perform_simple-requires-clause-scoped
perform_simple-requires-clause-scoped c = do-scoped _ _ (rw (c.in-Simple.is, stmt_tree-Simple c.in-Simple.simple) at c.requires.scoped)

pub choose-requires-clause-condition : goal.choose-requires-clause-condition
choose-requires-clause-condition c = if-condition _ _ _ (rw (c.in-If.is, stmt_tree-If c.in-If.condition c.in-If.then) at c.requires.scoped)

pub choose-requires-clause-first : goal.choose-requires-clause-first
choose-requires-clause-first c =
    let h = rw (c.in-If.is, stmt_tree-If c.in-If.condition c.in-If.then) at c.requires.scoped in
    rw c.deref.ensures (if-first _ _ _ h)

pub choose-requires-clause-second : goal.choose-requires-clause-second
choose-requires-clause-second c = empty-scoped _

pub choose-requires-in-IfElse-clause-condition : goal.choose-requires-in-IfElse-clause-condition
choose-requires-in-IfElse-clause-condition c =
    else-condition _ _ _ _ (rw (c.in-IfElse.is, stmt_tree-IfElse c.in-IfElse.condition c.in-IfElse.then c.in-IfElse.otherwise) at c.requires.scoped)

pub choose-requires-in-IfElse-clause-first : goal.choose-requires-in-IfElse-clause-first
choose-requires-in-IfElse-clause-first c =
    rw c.deref-in-IfElse.ensures
    (else-first _ _ _ _ (rw (c.in-IfElse.is, stmt_tree-IfElse c.in-IfElse.condition c.in-IfElse.then c.in-IfElse.otherwise) at c.requires.scoped))

pub choose-requires-in-IfElse-clause-second : goal.choose-requires-in-IfElse-clause-second
choose-requires-in-IfElse-clause-second c =
    rw c.deref-in-IfElse-2.ensures
    (else-second _ _ _ _ (rw (c.in-IfElse.is, stmt_tree-IfElse c.in-IfElse.condition c.in-IfElse.then c.in-IfElse.otherwise) at c.requires.scoped))

pub test-requires-clause-condition : goal.test-requires-clause-condition
test-requires-clause-condition c = while-condition _ _ _ (rw (c.in-While.is, stmt_tree-While c.in-While.condition c.in-While.body) at c.requires.scoped)

pub test-requires-clause-is_loop : goal.test-requires-clause-is_loop
test-requires-clause-is_loop c = rw (c.in-While.is, stmt_tree-While c.in-While.condition c.in-While.body) (tt {0})

pub return_right-requires-clause-scoped : goal.return_right-requires-clause-scoped
return_right-requires-clause-scoped c = return-scoped _ _ (rw (c.in-Return.is, stmt_tree-Return c.in-Return.value) at c.requires.scoped)

pub returns-in-Simple : goal.returns-in-Simple
returns-in-Simple c = rw (c.in-Simple.is, stmt_tree-Simple c.in-Simple.simple) c.perform_simple.ensures

pub returns-in-If : goal.returns-in-If
returns-in-If c = rw (c.in-If.is, stmt_tree-If c.in-If.condition c.in-If.then, ← c.deref.ensures) c.choose.ensures

pub returns-in-IfElse : goal.returns-in-IfElse
returns-in-IfElse c =
    rw (c.in-IfElse.is, stmt_tree-IfElse c.in-IfElse.condition c.in-IfElse.then c.in-IfElse.otherwise)
    (rw (← c.deref-in-IfElse.ensures, ← c.deref-in-IfElse-2.ensures) c.choose-in-IfElse.ensures)

pub returns-in-While : goal.returns-in-While
returns-in-While c =
    let is = ap stmt_tree c.in-While.is ∙ stmt_tree-While c.in-While.condition c.in-While.body in
    rw is (rw is at c.test.ensures)

pub returns-in-Return : goal.returns-in-Return
returns-in-Return c = rw (c.in-Return.is, stmt_tree-Return c.in-Return.value) c.return_right.ensures

pub returns-in-Break : goal.returns-in-Break
returns-in-Break c =
    let left = c.leave.ensures _ c.requires.thread.front.items in
    rw (c.in-Break.is, stmt_tree-Break) (goes-with (tree_of c.args.self.now) _ _ c.leave.new.items _ c.requires.next c.requires.thread left.0 left.1)

pub returns-in-Continue : goal.returns-in-Continue
returns-in-Continue c =
    let skipped = c.skip.ensures _ c.requires.thread.front.items in
    let rest = to_do c.args.thread.now.front.items.items in
    rw (c.in-Continue.is, stmt_tree-Continue) (pushed-so (tree_of c.args.self.now) _ _ _ (todo.after_skip 0 rest) c.skip.result c.went.result c.went.ensures
    c.requires.next c.requires.thread (on_ok_weaker c.skip.result (λ both. both.0) skipped) (on_ok_weaker c.skip.result (λ both. both.1) skipped))
