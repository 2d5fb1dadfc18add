use Rattle.grammar_reader.proofs.Paths.{exit}
use Rattle.grammar_reader.proofs.TableRules.{parameter_no_open, parameter_no_int, parameter_open_end, parameter_read}
use Rattle.grammar_reader.proofs.tables.table_parameter.Goals as goal

pub returns-in_err-take-clause-refused : goal.returns-in_err-take-clause-refused
returns-in_err-take-clause-refused c = exit _ _ c.from_residual.ensures.1 (parameter_no_open _ _ _ c.in_err-take.ensures.place c.in_err-take.ensures.other)

pub returns-in_err-take-2-clause-refused : goal.returns-in_err-take-2-clause-refused
returns-in_err-take-2-clause-refused c = exit _ _ c.from_residual-in_err-take-2.ensures.1 (parameter_no_int _ _ _ _ c.in_ok-take.ensures.taken c.in_err-take-2.ensures.place c.in_err-take-2.ensures.other)

pub returns-in_err-take-3-clause-refused : goal.returns-in_err-take-3-clause-refused
returns-in_err-take-3-clause-refused c = exit _ _ c.from_residual-in_err-take-3.ensures.1 (parameter_open_end _ _ _ _ _ c.in_ok-take.ensures.taken c.in_ok-take-2.ensures.taken c.in_err-take-3.ensures.place c.in_err-take-3.ensures.other)

pub returns-clause-read : goal.returns-clause-read
returns-clause-read c = parameter_read _ _ _ _ _ c.in_ok-take.ensures.taken c.in_ok-take-2.ensures.taken c.in_ok-take-3.ensures.taken
