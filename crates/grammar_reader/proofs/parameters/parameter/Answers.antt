use Rattle.grammar_reader.proofs.Paths.{exit}
use Rattle.grammar_reader.proofs.SignTests.{no_other_sign, not_that_sign}
use Rattle.grammar_reader.proofs.ParameterRules.{parameter_refused, parameter_memory, parameter_alone, parameter_named}
use Rattle.grammar_reader.proofs.parameters.parameter.Goals as goal

pub returns-in_err-take-clause-refused : goal.returns-in_err-take-clause-refused
returns-in_err-take-clause-refused c = exit _ _ c.from_residual.ensures.1 (parameter_refused _ _ _ c.in_err-take.ensures.place c.in_err-take.ensures.other)

pub returns-then-ne-clause-read : goal.returns-then-ne-clause-read
returns-then-ne-clause-read c = parameter_alone _ _ _ _ c.in_ok-take.ensures.taken (not_that_sign c.sign.ensures c.if-ne.ensures)

pub returns-in_err-name-clause-refused : goal.returns-in_err-name-clause-refused
returns-in_err-name-clause-refused c = exit _ _ c.from_residual-in_err-name.ensures.1 (parameter_memory _ _ _ _ (no_other_sign c.sign.ensures c.if-ne.ensures) c.in_err-name.ensures.refused)

pub returns-clause-read : goal.returns-clause-read
returns-clause-read c = parameter_named _ _ _ _ _ _ c.in_ok-take.ensures.taken c.in_ok-name.ensures.taken
