use Rattle.source_runs.proofs.Common.{subst, refl, simple_tree, stmt_tree, DeclareScalar, HasPart, loop_of, start_of, to_do, Part, context_at, tree_of}
use Rattle.c_mean.specs.ToDo as todo
use Rattle.source_runs.proofs.Moved.{pushed-so}
use Rattle.source_runs.proofs.Scopes.{at-there, condition-loop, condition-scoped, start-scoped, step-scoped}
use Rattle.source_runs.proofs.interpreter.Interpreter.perform.Goals as goal

pub whole-requires-clause-whole : goal.whole-requires-clause-whole
whole-requires-clause-whole c = subst (λ (p : Part). HasPart p (stmt_tree c.args.item.stmt.now)) c.in-Whole.is c.requires.item.has

pub whole-requires-clause-scoped : goal.whole-requires-clause-scoped
whole-requires-clause-scoped c = c.requires.item.scoped

pub perform_simple-requires-clause-scoped : goal.perform_simple-requires-clause-scoped
perform_simple-requires-clause-scoped c = start-scoped _ _ _ _ c.in-Some.ensures c.requires.item.scoped

pub perform_simple-requires-in-Some-step_of-clause-scoped : goal.perform_simple-requires-in-Some-step_of-clause-scoped
perform_simple-requires-in-Some-step_of-clause-scoped c = step-scoped _ _ _ c.in-Some-step_of.ensures c.requires.item.scoped

pub test-requires-clause-condition : goal.test-requires-clause-condition
test-requires-clause-condition c = condition-scoped _ _ _ c.in-Some-condition_of.ensures c.requires.item.scoped

pub test-requires-clause-is_loop : goal.test-requires-clause-is_loop
test-requires-clause-is_loop c = condition-loop (context_at (tree_of c.args.self.now) c.args.thread.now.front.function) _ _ c.in-Some-condition_of.ensures

pub returns-in-Whole : goal.returns-in-Whole
returns-in-Whole c = rw c.in-Whole.is c.whole.ensures

pub returns-in-Some : goal.returns-in-Some
returns-in-Some c =
    let there = at-there (start_of (stmt_tree c.args.item.stmt.now)) c.in-Start.number (simple_tree c.in-Some.simple.now) (DeclareScalar 0) c.in-Some.ensures in
    rw (c.in-Start.is, there) c.perform_simple.ensures

pub returns-in-Some-condition_of : goal.returns-in-Some-condition_of
returns-in-Some-condition_of c = rw (c.in-Test.is, ← c.in-Some-condition_of.ensures) c.test.ensures

pub returns-in-Some-step_of : goal.returns-in-Some-step_of
returns-in-Some-step_of c = rw (c.in-Step.is, ← c.in-Some-step_of.ensures) c.perform_simple-in-Some-step_of.ensures

pub returns-in-Enter : goal.returns-in-Enter
returns-in-Enter c = rw c.in-Enter.is (rw c.requires.next refl, c.requires.thread)

pub push_turn-requires : goal.push_turn-requires
push_turn-requires c = subst (λ (p : Part). HasPart p (stmt_tree c.args.item.stmt.now)) c.in-Back.is c.requires.item.has

pub returns-in-Back : goal.returns-in-Back
returns-in-Back c =
    rw c.in-Back.is
    (pushed-so (tree_of c.args.self.now) _ _ _ (todo.turn_before (loop_of (stmt_tree c.args.item.stmt.now)) (to_do c.args.thread.now.front.items.items))
    c.push_turn.result c.went.result c.went.ensures c.requires.next c.requires.thread c.push_turn.ensures.next
    (c.push_turn.ensures.fits _ c.requires.thread.front.items c.requires.item.scoped))
