use Rattle.source_items.proofs.Common.{◌≡◌, ◌≤◌, ℕ, Bool, List, length, drop, stmt_trees, AreStmtsScoped, Context, AreItems, to_do}
use Rattle.c_mean.specs.ToDo as todo
use Rattle.source_items.proofs.items.+before.Given as goal

abbrev pub invariant-push_stmts-loop-left : goal.invariant-push_stmts-loop-left
invariant-push_stmts-loop-left l = record {
  within : l.left ≤ length l.stmts;
  next : to_do l.items.items ≡ todo.all_before (stmt_trees (drop l.left l.stmts)) (to_do l.initial.items.items);
  fits : (c : Context) (loop : Bool) (scope : List ℕ) → AreItems c l.initial.items.items → AreStmtsScoped c loop scope (stmt_trees l.stmts) → AreItems c l.items.items;
}

abbrev pub decreases-push_stmts-loop-left : goal.decreases-push_stmts-loop-left
decreases-push_stmts-loop-left l = l.left
