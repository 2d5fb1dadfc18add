use Rattle.scope_rules.proofs.Common.{◌≡◌, map, stmt_tree, stmt_numbered}
use Rattle.scope_rules.proofs.MappedLists.{changed_to}
use Rattle.scope_rules.proofs.numbering.+number.Given as goal

abbrev pub invariant-number_stmts-loop-i : goal.invariant-number_stmts-loop-i
invariant-number_stmts-loop-i l =
    goal.unvisited-number_stmts-loop-i l × (map stmt_tree l.stmts ≡ changed_to (stmt_numbered l.numbers) l.i (map stmt_tree l.initial.stmts))
