use Rattle.grammar_reader.proofs.Paths.{exit}
use Rattle.grammar_reader.proofs.TableRules.{declared_no_star, declared_no_name, declared_size_refused, declared_open_end, declared_read}
use Rattle.grammar_reader.proofs.tables.declared.Goals as goal

pub returns-in_err-take-clause-refused : goal.returns-in_err-take-clause-refused
returns-in_err-take-clause-refused c = exit _ _ c.from_residual.ensures.1 (declared_no_star _ _ _ _ c.requires c.pass.ensures c.in_err-take.ensures.place c.in_err-take.ensures.other)

pub returns-in_err-name-clause-refused : goal.returns-in_err-name-clause-refused
returns-in_err-name-clause-refused c = exit _ _ c.from_residual-in_err-name.ensures.1 (declared_no_name _ _ _ _ _ c.requires c.pass.ensures c.in_ok-take.ensures.taken c.in_err-name.ensures.refused)

pub returns-in_err-size-clause-refused : goal.returns-in_err-size-clause-refused
returns-in_err-size-clause-refused c = exit _ _ c.from_residual-in_err-size.ensures.1 (declared_size_refused _ _ _ _ _ _ _ _ c.requires c.pass.ensures c.in_ok-take.ensures.taken c.in_ok-name.ensures.taken c.in_err-size.ensures.refused)

pub returns-in_err-take-2-clause-refused : goal.returns-in_err-take-2-clause-refused
returns-in_err-take-2-clause-refused c = exit _ _ c.from_residual-in_err-take-2.ensures.1 (declared_open_end _ _ _ _ _ _ _ _ _ _ c.requires c.pass.ensures c.in_ok-take.ensures.taken c.in_ok-name.ensures.taken c.in_ok-size.ensures.read c.in_err-take-2.ensures.place c.in_err-take-2.ensures.other)

pub returns-clause-read : goal.returns-clause-read
returns-clause-read c = declared_read _ _ _ _ _ _ _ _ _ _ c.requires c.pass.ensures c.in_ok-take.ensures.taken c.in_ok-name.ensures.taken c.in_ok-size.ensures.read c.in_ok-take-2.ensures.taken
