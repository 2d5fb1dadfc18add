use Rattle.grammar_reader.proofs.Paths.{exit, sign_is, sign_other}
use Rattle.grammar_reader.proofs.GlobalRules.{start_negative, start_negative_refused, start_plain, start_refused}
use Rattle.grammar_reader.proofs.globals.start.Goals as goal

pub returns-in_err-value-clause-refused : goal.returns-in_err-value-clause-refused
returns-in_err-value-clause-refused c = exit _ _ c.from_residual.ensures.1 (start_negative_refused _ _ _ _ (sign_is c.sign.ensures c.if-eq.ensures) c.pass.ensures c.in_err-value.ensures.place c.in_err-value.ensures.other)

pub returns-then-eq-clause-read : goal.returns-then-eq-clause-read
returns-then-eq-clause-read c = rw c.negative.ensures (start_negative _ _ _ _ _ _ (sign_is c.sign.ensures c.if-eq.ensures) c.pass.ensures c.in_ok-value.ensures.taken)

pub returns-in_err-value-2-clause-refused : goal.returns-in_err-value-2-clause-refused
returns-in_err-value-2-clause-refused c = exit _ _ c.from_residual-in_err-value-2.ensures.1 (start_refused _ _ _ (sign_other c.sign.ensures c.if-eq.ensures) c.in_err-value-2.ensures.place c.in_err-value-2.ensures.other)

pub returns-clause-read : goal.returns-clause-read
returns-clause-read c = start_plain _ _ _ _ _ c.in_ok-value-2.ensures.taken
