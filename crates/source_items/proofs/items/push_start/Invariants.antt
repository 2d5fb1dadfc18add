use Rattle.source_items.proofs.Common.{◌≡◌, ◌≤◌, ◌++◌, length, drop, map, simple_tree, stmt_tree, Context, AreItems, IsScoped, to_do}
use Rattle.c_mean.specs.ToDo as todo
use Rattle.source_items.proofs.items.push_start.Given as goal

abbrev pub invariant-loop-left : goal.invariant-loop-left
invariant-loop-left l = record {
  within : l.left ≤ length l.init;
  next : to_do l.items.items ≡ map todo.Simply (map simple_tree (drop l.left l.init)) ++ to_do l.initial.items.items;
  fits : (c : Context) → AreItems c l.initial.items.items → IsScoped c (stmt_tree l.stmt) → AreItems c l.items.items;
}

abbrev pub decreases-loop-left : goal.decreases-loop-left
decreases-loop-left l = l.left
