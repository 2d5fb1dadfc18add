use Rattle.grammar_reader.proofs.Common.{IfOk-weaker}
use Rattle.grammar_reader.proofs.Paths.{exit}
use Rattle.grammar_reader.proofs.PlainRules.{declarations_refused, declarations_read}
use Rattle.grammar_reader.proofs.plain_statements.declarations.Goals as goal

pub returns-in_err-declared-clause-refused : goal.returns-in_err-declared-clause-refused
returns-in_err-declared-clause-refused c = exit _ _ c.from_residual.ensures.1 (declarations_refused _ _ _ _ c.requires.fits c.requires.int c.in_err-declared.ensures.refused)

pub returns-clause-read : goal.returns-clause-read
returns-clause-read c = IfOk-weaker c.push_declared.result _ _ (λ x e. declarations_read _ _ _ _ _ _ _ _ c.requires.fits c.requires.int c.in_ok-declared.ensures.read e) c.push_declared.ensures.pushed
