use Rattle.grammar_reader.proofs.Common.{refl, map-append}
use Rattle.grammar_reader.proofs.Paths.{exit, sign_is, sign_other}
use Rattle.grammar_reader.proofs.GlobalRules.{globals_first_refused, globals_first, globals_more, globals_no_name, globals_more_refused, globals_open_end, globals_read}
use Rattle.grammar_reader.proofs.globals.globals.Goals as goal

pub returns-in_err-global-clause-refused : goal.returns-in_err-global-clause-refused
returns-in_err-global-clause-refused c = exit _ _ c.from_residual.ensures.1 (globals_first_refused _ _ _ c.requires c.in_err-global.ensures.refused)

pub loop-cursor-init : goal.loop-cursor-init
loop-cursor-init c = globals_first _ _ _ _ _ _ _ _ c.requires c.in_ok-global.ensures.read (rw (c.in_ok-push.ensures.items, map-append) refl)

pub loop-cursor-preserved : goal.loop-cursor-preserved
loop-cursor-preserved c =
    globals_more _ _ _ _ _ _ _ _ _ _ _ _ _ c.loop-cursor.invariant (sign_is c.sign.ensures c.loop-cursor-test.ensures) c.pass.ensures c.in_ok-name.ensures.taken c.in_ok-global-2.ensures.read (rw (c.in_ok-push-2.ensures.items, map-append) refl)

pub returns-in_err-name-clause-refused : goal.returns-in_err-name-clause-refused
returns-in_err-name-clause-refused c = exit _ _ c.from_residual-in_err-name.ensures.1 (globals_no_name _ _ _ _ _ _ _ _ _ c.loop-cursor.invariant (sign_is c.sign.ensures c.loop-cursor-test.ensures) c.pass.ensures c.in_err-name.ensures.refused)

pub returns-in_err-global-2-clause-refused : goal.returns-in_err-global-2-clause-refused
returns-in_err-global-2-clause-refused c = exit _ _ c.from_residual-in_err-global-2.ensures.1 (globals_more_refused _ _ _ _ _ _ _ _ _ _ _ c.loop-cursor.invariant (sign_is c.sign.ensures c.loop-cursor-test.ensures) c.pass.ensures c.in_ok-name.ensures.taken c.in_err-global-2.ensures.refused)

pub returns-in_err-take-clause-refused : goal.returns-in_err-take-clause-refused
returns-in_err-take-clause-refused c = exit _ _ c.from_residual-in_err-take.ensures.1 (globals_open_end _ _ _ _ _ _ _ _ c.loop-cursor.invariant (sign_other c.sign.ensures c.loop-cursor-test.ensures) c.in_err-take.ensures.other c.in_err-take.ensures.place)

pub returns-clause-read : goal.returns-clause-read
returns-clause-read c = globals_read _ _ _ _ _ _ _ _ c.loop-cursor.invariant c.in_ok-take.ensures.taken
