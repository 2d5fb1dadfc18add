use Rattle.grammar_reader.proofs.Common.{raw_stmt_tree-Continue}
use Rattle.grammar_reader.proofs.Paths.{exit}
use Rattle.grammar_reader.proofs.PlainRules.{Jump, jump_open_end, jump_read}
use Rattle.grammar_reader.proofs.plain_statements.continue_statement.Goals as goal

pub returns-in_err-take-clause-refused : goal.returns-in_err-take-clause-refused
returns-in_err-take-clause-refused c = exit _ _ c.from_residual.ensures.1 (jump_open_end _ _ _ _ _ Jump.continue_jump c.requires.fits c.requires.keyword c.pass.ensures c.in_err-take.ensures.place c.in_err-take.ensures.other)

pub returns-clause-read : goal.returns-clause-read
returns-clause-read c = rw (raw_stmt_tree-Continue c.place-at.result) (jump_read _ _ _ _ _ _ _ Jump.continue_jump c.requires.fits c.requires.keyword c.place-at.ensures c.pass.ensures c.in_ok-take.ensures.taken)
