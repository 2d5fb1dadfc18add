use Rattle.scope_rules.proofs.Common.{◌≡◌, ◌++◌, drop, map, stmt_tree, raw_stmt_tree, raw_stmt_trees, least_of, spot_of, stmts_after, stmts_faults, stmts_list}
use Rattle.scope_rules.proofs.places.Place.+statements.Given as goal

abbrev pub invariant-stmts-loop-stmt : goal.invariant-stmts-loop-stmt
invariant-stmts-loop-stmt l = record {
  trees : map stmt_tree l.stmts.items ++ stmts_list (spot_of l.self) (map raw_stmt_tree (drop l.stmt-index l.raw)) ≡ stmts_list (spot_of l.initial.self) (map raw_stmt_tree l.raw);
  place : stmts_after (spot_of l.self) (raw_stmt_trees (drop l.stmt-index l.raw)) ≡ stmts_after (spot_of l.initial.self) (raw_stmt_trees l.raw);
  faults : least_of l.self.least (stmts_faults l.gives l.loops (spot_of l.self) (raw_stmt_trees (drop l.stmt-index l.raw))) ≡ least_of l.initial.self.least (stmts_faults l.gives l.loops (spot_of l.initial.self) (raw_stmt_trees l.raw));
}
