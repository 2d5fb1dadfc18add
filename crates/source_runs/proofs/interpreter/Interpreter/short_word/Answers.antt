use Rattle.source_runs.proofs.Common.{◌≡◌, ℕ, List, ap, ◌∙◌, sym, subst, Ok, IfSome, expr_tree, IsInRange, rows_of, widths_of, value, rows_in, sizes_at, tree_of}
use Rattle.source_runs.proofs.interpreter.Interpreter.short_word.Goals as goal

pub short_value-requires-clause-in_range : goal.short_value-requires-clause-in_range
short_value-requires-clause-in_range c =
    let e = expr_tree c.args.expr.now in
    subst (λ (ns : List ℕ). IsInRange ns c.global_rows-globals.result.widths.now e) (sym c.name_rows-names.ensures.widths)
    (subst (λ (ms : List ℕ). IsInRange (sizes_at (tree_of c.args.self.now) c.args.thread.now.front.function) ms e) (sym c.global_rows-globals.ensures.widths) c.requires.in_range)

pub returns : goal.returns
returns c =
    let e = expr_tree c.args.expr.now in
    let names = rows_of (sizes_at (tree_of c.args.self.now) c.args.thread.now.front.function) c.args.thread.now.front.names.items in
    subst (λ (rows : List (List ℕ)). IfSome c.short_value.result (λ word. value names rows e ≡ Ok word)) (c.global_rows-globals.ensures.words ∙ ap (rows_of (widths_of (tree_of c.args.self.now).globals)) c.deref.ensures.value)
    (subst (λ (rows : List (List ℕ)). IfSome c.short_value.result (λ word. value rows (rows_in c.global_rows-globals.result) e ≡ Ok word)) c.name_rows-names.ensures.words c.short_value.ensures)
