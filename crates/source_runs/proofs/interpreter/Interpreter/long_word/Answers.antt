use Rattle.source_runs.proofs.Common.{ℕ, List, ap, ◌∙◌, sym, subst, expr_tree, IsInRange, rows_of, widths_of, value, rows_in, sizes_at, tree_of}
use Rattle.source_runs.proofs.interpreter.Interpreter.long_word.Goals as goal

pub composed-requires-clause-in_range : goal.composed-requires-clause-in_range
composed-requires-clause-in_range c =
    let e = expr_tree c.args.expr.now in
    subst (λ (ns : List ℕ). IsInRange ns c.global_rows-globals.result.widths.now e) (sym c.name_rows-names.ensures.widths)
    (subst (λ (ms : List ℕ). IsInRange (sizes_at (tree_of c.args.self.now) c.args.thread.now.front.function) ms e) (sym c.global_rows-globals.ensures.widths) c.requires.in_range)

pub returns : goal.returns
returns c =
    let e = expr_tree c.args.expr.now in
    c.composed.ensures
    ∙ (ap (λ (rows : List (List ℕ)). value rows (rows_in c.global_rows-globals.result) e) c.name_rows-names.ensures.words
    ∙ ap (λ (rows : List (List ℕ)). value (rows_of (sizes_at (tree_of c.args.self.now) c.args.thread.now.front.function) c.args.thread.now.front.names.items) rows e) (c.global_rows-globals.ensures.words ∙ ap (rows_of (widths_of (tree_of c.args.self.now).globals)) c.deref.ensures.value))
