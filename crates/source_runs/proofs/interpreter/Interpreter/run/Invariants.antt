use Rattle.source_runs.proofs.Common.{◌≡◌, ◌≤◌, ◌-◌, Goes, moves, source_machine, tree_of, IsThread, running_of}
use Rattle.source_runs.proofs.interpreter.Interpreter.run.Given as goal

abbrev pub invariant-loop-left : goal.invariant-loop-left
invariant-loop-left l = record {
  within : l.left ≤ l.initial.left;
  silent : moves (source_machine (tree_of l.self)) (l.initial.left - l.left) (running_of (tree_of l.self) l.initial.thread l.initial.globals.items) ≡ Goes (running_of (tree_of l.self) l.thread l.globals.items);
  fits : IsThread (tree_of l.self) l.thread l.globals.items;
}

abbrev pub decreases-loop-left : goal.decreases-loop-left
decreases-loop-left l = l.left
