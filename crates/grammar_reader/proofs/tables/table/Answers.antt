use Rattle.grammar_reader.proofs.Paths.{exit}
use Rattle.grammar_reader.proofs.TableRules.{table_parameter_refused, table_no_assign, table_members_refused, table_open_end, table_read}
use Rattle.grammar_reader.proofs.tables.table.Goals as goal

pub returns-in_err-table_parameter-clause-refused : goal.returns-in_err-table_parameter-clause-refused
returns-in_err-table_parameter-clause-refused c = exit _ _ c.from_residual-in_err-table_parameter.ensures.1 (table_parameter_refused _ _ _ _ _ _ _ c.in_ok-name.ensures.read c.in_err-table_parameter.ensures.refused)

pub returns-in_err-take-clause-refused : goal.returns-in_err-take-clause-refused
returns-in_err-take-clause-refused c = exit _ _ c.from_residual-in_err-take.ensures.1 (table_no_assign _ _ _ _ _ _ _ _ c.in_ok-name.ensures.read c.in_ok-table_parameter.ensures.read c.in_err-take.ensures.place c.in_err-take.ensures.other)

pub returns-in_err-members-clause-refused : goal.returns-in_err-members-clause-refused
returns-in_err-members-clause-refused c = exit _ _ c.from_residual-in_err-members.ensures.1 (table_members_refused _ _ _ _ _ _ _ _ _ c.in_ok-name.ensures.read c.in_ok-table_parameter.ensures.read c.in_ok-take.ensures.taken c.in_err-members.ensures.refused)

pub returns-in_err-take-2-clause-refused : goal.returns-in_err-take-2-clause-refused
returns-in_err-take-2-clause-refused c = exit _ _ c.from_residual-in_err-take-2.ensures.1 (table_open_end _ _ _ _ _ _ _ _ _ _ _ c.in_ok-name.ensures.read c.in_ok-table_parameter.ensures.read c.in_ok-take.ensures.taken c.in_ok-members.ensures.read c.in_err-take-2.ensures.place c.in_err-take-2.ensures.other)

pub returns-clause-read : goal.returns-clause-read
returns-clause-read c = table_read _ _ _ _ _ _ _ _ _ _ _ c.in_ok-name.ensures.read c.in_ok-table_parameter.ensures.read c.in_ok-take.ensures.taken c.in_ok-members.ensures.read c.in_ok-take-2.ensures.taken
