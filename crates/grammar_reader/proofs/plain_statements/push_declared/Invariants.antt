use Rattle.grammar_reader.proofs.Common.{◌≡◌, ◌++◌, map, RawDo, raw_simple_tree, raw_stmt_tree}
use Rattle.grammar_reader.proofs.plain_statements.push_declared.Given as goal

abbrev pub invariant-loop-simple : goal.invariant-loop-simple
invariant-loop-simple l = map raw_stmt_tree l.stmts.items ≡ map raw_stmt_tree l.fn.stmts.items ++ map RawDo (map raw_simple_tree l.yielded)
