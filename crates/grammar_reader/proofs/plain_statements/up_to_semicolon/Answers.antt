use Rattle.grammar_reader.proofs.Paths.{exit, sign_is, sign_other}
use Rattle.grammar_reader.proofs.PlainRules.{up_none, up_refused, up_open_end, up_something}
use Rattle.grammar_reader.proofs.plain_statements.up_to_semicolon.Goals as goal

pub returns-then-eq-clause-read : goal.returns-then-eq-clause-read
returns-then-eq-clause-read c = up_none _ _ _ _ _ c.requires (sign_is c.sign.ensures c.if-eq.ensures) c.pass.ensures

pub returns-in_err-value-clause-refused : goal.returns-in_err-value-clause-refused
returns-in_err-value-clause-refused c = exit _ _ c.from_residual.ensures.1 (up_refused _ _ _ _ (sign_other c.sign.ensures c.if-eq.ensures) c.in_err-value.ensures.refused)

pub returns-in_err-value-2-clause-refused : goal.returns-in_err-value-2-clause-refused
returns-in_err-value-2-clause-refused c =
    exit _ _ c.from_residual-in_err-value-2.ensures.1 (up_open_end _ _ _ _ _ _ _ (sign_other c.sign.ensures c.if-eq.ensures) c.in_ok-value.ensures.read c.in_err-value-2.ensures.place c.in_err-value-2.ensures.other)

pub returns-clause-read : goal.returns-clause-read
returns-clause-read c = rw c.in_ok-value-2.ensures.held (up_something _ _ _ _ _ _ _ c.requires (sign_other c.sign.ensures c.if-eq.ensures) c.in_ok-value.ensures.read c.in_ok-value-2.ensures.taken)
