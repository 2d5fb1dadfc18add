use Rattle.grammar_reader.proofs.Common.{map, map-append, err_from_is_err_and, raw_simple_tree}
use Rattle.grammar_reader.proofs.LocalRules.{locals_first_refused, locals_first, locals_more, locals_more_refused, locals_open_end, locals_read}
use Rattle.grammar_reader.proofs.simples.locals.Goals as goal
use Rattle.grammar_reader.proofs.Paths.{sign_is, sign_other}

pub returns-in_err-local-clause-refused : goal.returns-in_err-local-clause-refused
returns-in_err-local-clause-refused c =
    let p = err_from_is_err_and c.from_residual.result c.from_residual.ensures.1 in
    rw (p.1, p.2) (locals_first_refused c.args.text.end c.args.depth c.args.cursor.now.tokens.now c.pass.new.self.tokens.now c.in_err-local.field-0.0 c.pass.ensures c.in_err-local.ensures.refused)

pub loop-cursor-init : goal.loop-cursor-init
loop-cursor-init c =
    rw (c.in_ok-push.ensures.items, c.new-simples.ensures.items)
    (locals_first c.args.text.bytes.now c.args.text.end c.args.depth c.args.cursor.now.tokens.now c.pass.new.self.tokens.now c.local.new.cursor.tokens.now (raw_simple_tree c.in_ok-local.field-0) c.requires.int c.pass.ensures c.in_ok-local.ensures.read)

pub loop-cursor-preserved : goal.loop-cursor-preserved
loop-cursor-preserved c =
    rw (c.in_ok-push-2.ensures.items, map-append)
    (locals_more c.args.text.bytes.now c.args.text.end c.args.depth c.args.cursor.now.tokens.now c.loop-cursor.cursor.tokens.now c.pass-in-loop-cursor.new.self.tokens.now c.local-in-loop-cursor.new.cursor.tokens.now (map raw_simple_tree c.loop-cursor.simples.items) (raw_simple_tree c.in_ok-local-2.field-0) c.requires.fits c.loop-cursor.invariant (sign_is c.sign.ensures c.loop-cursor-test.ensures)
    c.pass-in-loop-cursor.ensures c.in_ok-local-2.ensures.read)

pub returns-in_err-local-2-clause-refused : goal.returns-in_err-local-2-clause-refused
returns-in_err-local-2-clause-refused c =
    let p = err_from_is_err_and c.from_residual-in_err-local-2.result c.from_residual-in_err-local-2.ensures.1 in
    rw (p.1, p.2) (locals_more_refused c.args.text.bytes.now c.args.text.end c.args.depth c.args.cursor.now.tokens.now c.loop-cursor.cursor.tokens.now c.pass-in-loop-cursor.new.self.tokens.now (map raw_simple_tree c.loop-cursor.simples.items) c.in_err-local-2.field-0.0 c.requires.fits c.loop-cursor.invariant (sign_is c.sign.ensures c.loop-cursor-test.ensures) c.pass-in-loop-cursor.ensures c.in_err-local-2.ensures.refused)

pub returns-in_err-take-clause-refused : goal.returns-in_err-take-clause-refused
returns-in_err-take-clause-refused c =
    let p = err_from_is_err_and c.from_residual-in_err-take.result c.from_residual-in_err-take.ensures.1 in
    rw (p.1, p.2) (locals_open_end c.args.text.bytes.now c.args.text.end c.args.depth c.args.cursor.now.tokens.now c.loop-cursor.cursor.tokens.now (map raw_simple_tree c.loop-cursor.simples.items) c.in_err-take.field-0.0 c.loop-cursor.invariant (sign_other c.sign.ensures c.loop-cursor-test.ensures) c.in_err-take.ensures.other c.in_err-take.ensures.place)

pub returns-clause-read : goal.returns-clause-read
returns-clause-read c = locals_read c.args.text.bytes.now c.args.text.end c.args.depth c.args.cursor.now.tokens.now c.loop-cursor.cursor.tokens.now c.take.new.self.tokens.now (map raw_simple_tree c.loop-cursor.simples.items) c.requires.fits c.loop-cursor.invariant c.in_ok-take.ensures.taken
