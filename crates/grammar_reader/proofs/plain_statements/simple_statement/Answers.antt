use Rattle.grammar_reader.proofs.Common.{raw_stmt_tree-Simple}
use Rattle.grammar_reader.proofs.Paths.{exit}
use Rattle.grammar_reader.proofs.PlainRules.{simple_refused, simple_open_end, simple_read}
use Rattle.grammar_reader.proofs.plain_statements.simple_statement.Goals as goal

pub returns-in_err-simple-clause-refused : goal.returns-in_err-simple-clause-refused
returns-in_err-simple-clause-refused c = exit _ _ c.from_residual.ensures.1 (simple_refused _ _ _ _ c.requires.fits c.requires.other c.in_err-simple.ensures.refused)

pub returns-in_err-simple-2-clause-refused : goal.returns-in_err-simple-2-clause-refused
returns-in_err-simple-2-clause-refused c = exit _ _ c.from_residual-in_err-simple-2.ensures.1 (simple_open_end _ _ _ _ _ _ _ c.requires.fits c.in_ok-simple.ensures.read c.in_err-simple-2.ensures.place c.in_err-simple-2.ensures.other)

pub returns-clause-read : goal.returns-clause-read
returns-clause-read c = rw (raw_stmt_tree-Simple c.in_ok-simple-2.simple, c.in_ok-simple-2.ensures.held) (simple_read _ _ _ _ _ _ _ c.requires.fits c.in_ok-simple.ensures.read c.in_ok-simple-2.ensures.taken)
