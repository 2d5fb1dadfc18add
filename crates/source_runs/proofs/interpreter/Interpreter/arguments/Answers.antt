use Rattle.source_runs.proofs.Common.{ℕ, List, ap, ◌∙◌, err_from_is_err_and, rows_of, widths_of, sizes_at, tree_of, globals_of}
use Rattle.source_runs.proofs.Ranges.{after-none, after_words, of, range-at, values-all, values-more, values-trap}
use Rattle.source_runs.proofs.interpreter.Interpreter.arguments.Goals as goal

pub value-requires-clause-in_range : goal.value-requires-clause-in_range
value-requires-clause-in_range c =
    range-at (sizes_at (tree_of c.args.self.now) c.args.thread.now.front.function) (widths_of (tree_of c.args.self.now).globals) c.args.arguments.now c.loop-argument.argument-index c.argument-item.result c.requires.in_range c.loop-argument-test.true c.argument-item.is

pub loop-argument-init : goal.loop-argument-init
loop-argument-init c =
    let tree = tree_of c.args.self.now in
    let names = rows_of (sizes_at tree c.args.thread.now.front.function) c.args.thread.now.front.names.items in
    let globals = globals_of tree c.args.globals.now.items in
    ap (λ (xs : List ℕ). after_words xs (of names globals c.args.arguments.now)) c.in_ok-words.ensures ∙ after-none (of names globals c.args.arguments.now)

pub loop-argument-preserved : goal.loop-argument-preserved
loop-argument-preserved c =
    let tree = tree_of c.args.self.now in
    let names = rows_of (sizes_at tree c.args.thread.now.front.function) c.args.thread.now.front.names.items in
    let globals = globals_of tree c.args.globals.now.items in
    let l = c.loop-argument in
    values-more names globals c.args.arguments.now l.argument-index c.argument-item.result l.words.items c.push.new.list.items c.in_ok-word.word c.loop-argument-test.true c.argument-item.is c.in_ok-word.ensures c.in_ok-push.ensures l.invariant

pub returns : goal.returns
returns c =
    let tree = tree_of c.args.self.now in
    let names = rows_of (sizes_at tree c.args.thread.now.front.function) c.args.thread.now.front.names.items in
    let globals = globals_of tree c.args.globals.now.items in
    values-all names globals c.args.arguments.now c.loop-argument.argument-index c.loop-argument.words.items c.loop-argument-test.false c.loop-argument.invariant

pub returns-in_err-words : goal.returns-in_err-words
returns-in_err-words c = let p = err_from_is_err_and c.from_residual.result c.from_residual.ensures.1 in rw (p.1, p.2) (tt {0})

pub returns-in_err-word : goal.returns-in_err-word
returns-in_err-word c =
    let tree = tree_of c.args.self.now in
    let names = rows_of (sizes_at tree c.args.thread.now.front.function) c.args.thread.now.front.names.items in
    let globals = globals_of tree c.args.globals.now.items in
    let l = c.loop-argument in
    let p = err_from_is_err_and c.from_residual-in_err-word.result c.from_residual-in_err-word.ensures.1 in
    rw (p.1, p.2)
    (values-trap names globals c.args.arguments.now l.argument-index c.argument-item.result l.words.items _ c.loop-argument-test.true c.argument-item.is c.in_err-word.ensures l.invariant)

pub returns-in_err-push : goal.returns-in_err-push
returns-in_err-push c = let p = err_from_is_err_and c.from_residual-in_err-push.result c.from_residual-in_err-push.ensures.1 in rw (p.1, p.2) (tt {0})
