use Rattle.grammar_reader.proofs.Common.{map-append}
use Rattle.grammar_reader.proofs.Paths.{exit, sign_is, sign_other}
use Rattle.grammar_reader.proofs.ParameterRules.{list_first_refused, list_first, list_more, list_more_refused, list_open_end, list_read}
use Rattle.grammar_reader.proofs.parameters.parameter_list.Goals as goal

pub returns-in_err-parameter-clause-refused : goal.returns-in_err-parameter-clause-refused
returns-in_err-parameter-clause-refused c = exit _ _ c.from_residual.ensures.1 (list_first_refused _ _ _ c.requires.some c.requires.no_void c.in_err-parameter.ensures.refused)

pub loop-cursor-init : goal.loop-cursor-init
loop-cursor-init c = rw (c.in_ok-push.ensures.items, c.new-params.ensures.items) (list_first _ _ _ _ _ c.in_ok-parameter.ensures.read)

pub loop-cursor-preserved : goal.loop-cursor-preserved
loop-cursor-preserved c =
    rw (c.in_ok-push-2.ensures.items, map-append) (list_more _ _ _ _ _ _ _ _ c.loop-cursor.invariant (sign_is c.sign.ensures c.loop-cursor-test.ensures) c.pass.ensures c.in_ok-parameter-2.ensures.read)

pub returns-in_err-parameter-2-clause-refused : goal.returns-in_err-parameter-2-clause-refused
returns-in_err-parameter-2-clause-refused c = exit _ _ c.from_residual-in_err-parameter-2.ensures.1 (list_more_refused _ _ _ _ _ _ _ c.loop-cursor.invariant (sign_is c.sign.ensures c.loop-cursor-test.ensures) c.pass.ensures c.in_err-parameter-2.ensures.refused)

pub returns-in_err-take-clause-refused : goal.returns-in_err-take-clause-refused
returns-in_err-take-clause-refused c = exit _ _ c.from_residual-in_err-take.ensures.1 (list_open_end _ _ _ _ _ _ c.loop-cursor.invariant (sign_other c.sign.ensures c.loop-cursor-test.ensures) c.in_err-take.ensures.other c.in_err-take.ensures.place)

pub returns-clause-read : goal.returns-clause-read
returns-clause-read c = list_read _ _ _ _ _ _ c.loop-cursor.invariant c.in_ok-take.ensures.taken
