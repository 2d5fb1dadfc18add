use Rattle.hoist_rules.proofs.Common.{◌≡◌, ◌+◌, drop, raw_stmt_trees, stmts_names, all_hoisted, then_all}
use Rattle.hoist_rules.proofs.hoisting.Hoisting.+statements.Given as goal

abbrev pub invariant-statements-loop-stmt : goal.invariant-statements-loop-stmt
invariant-statements-loop-stmt g l = record {
  statements : then_all (g.R.Receive.so_far l.self.receiver) (all_hoisted l.self.next (raw_stmt_trees (drop l.stmt-index l.raw)))
      ≡ then_all (g.R.Receive.so_far l.initial.self.receiver) (all_hoisted l.initial.self.next (raw_stmt_trees l.raw));
  next : l.self.next + stmts_names (raw_stmt_trees (drop l.stmt-index l.raw)) ≡ l.initial.self.next + stmts_names (raw_stmt_trees l.raw);
}
