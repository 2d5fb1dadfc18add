use Rattle.grammar_reader.proofs.Common.{raw_stmt_tree-Return}
use Rattle.grammar_reader.proofs.Paths.{exit}
use Rattle.grammar_reader.proofs.PlainRules.{return_refused, return_read}
use Rattle.grammar_reader.proofs.plain_statements.return_statement.Goals as goal

pub returns-in_err-value-clause-refused : goal.returns-in_err-value-clause-refused
returns-in_err-value-clause-refused c = exit _ _ c.from_residual.ensures.1 (return_refused _ _ _ _ _ c.requires.fits c.requires.keyword c.pass.ensures c.in_err-value.ensures.refused)

pub returns-clause-read : goal.returns-clause-read
returns-clause-read c = rw (raw_stmt_tree-Return c.place-at.result c.in_ok-value.value) (return_read _ _ _ _ _ _ _ _ c.requires.fits c.requires.keyword c.place-at.ensures c.pass.ensures c.in_ok-value.ensures.read)
