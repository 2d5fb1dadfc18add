use Rattle.grammar_reader.proofs.Common.{map-append}
use Rattle.grammar_reader.proofs.Paths.{exit, sign_is, sign_other}
use Rattle.grammar_reader.proofs.TableRules.{members_no_brace, members_no_name, members_first, members_more_no_name, members_more, members_open_end, members_read}
use Rattle.grammar_reader.proofs.tables.members.Goals as goal

pub returns-in_err-take-clause-refused : goal.returns-in_err-take-clause-refused
returns-in_err-take-clause-refused c = exit _ _ c.from_residual.ensures.1 (members_no_brace _ _ _ c.in_err-take.ensures.place c.in_err-take.ensures.other)

pub returns-in_err-take_name-clause-refused : goal.returns-in_err-take_name-clause-refused
returns-in_err-take_name-clause-refused c = exit _ _ c.from_residual-in_err-take_name.ensures.1 (members_no_name _ _ _ _ c.in_ok-take.ensures.taken c.in_err-take_name.ensures.refused)

pub loop-cursor-init : goal.loop-cursor-init
loop-cursor-init c =
    rw (c.in_ok-push.ensures.items, c.new-members.ensures.items) (members_first _ _ _ _ _ _ c.in_ok-take.ensures.taken c.in_ok-take_name.ensures.taken)

pub loop-cursor-preserved : goal.loop-cursor-preserved
loop-cursor-preserved c =
    rw (c.in_ok-push-2.ensures.items, map-append) (members_more _ _ _ _ _ _ _ _ c.loop-cursor.invariant (sign_is c.sign.ensures c.loop-cursor-test.ensures) c.pass.ensures c.in_ok-take_name-2.ensures.taken)

pub returns-in_err-take_name-2-clause-refused : goal.returns-in_err-take_name-2-clause-refused
returns-in_err-take_name-2-clause-refused c = exit _ _ c.from_residual-in_err-take_name-2.ensures.1 (members_more_no_name _ _ _ _ _ _ _ c.loop-cursor.invariant (sign_is c.sign.ensures c.loop-cursor-test.ensures) c.pass.ensures c.in_err-take_name-2.ensures.refused)

pub returns-in_err-take-2-clause-refused : goal.returns-in_err-take-2-clause-refused
returns-in_err-take-2-clause-refused c = exit _ _ c.from_residual-in_err-take-2.ensures.1 (members_open_end _ _ _ _ _ _ c.loop-cursor.invariant (sign_other c.sign.ensures c.loop-cursor-test.ensures) c.in_err-take-2.ensures.other c.in_err-take-2.ensures.place)

pub returns-clause-read : goal.returns-clause-read
returns-clause-read c = members_read _ _ _ _ _ _ c.loop-cursor.invariant c.in_ok-take-2.ensures.taken
