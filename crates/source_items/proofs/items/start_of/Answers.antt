use Rattle.source_items.proofs.Common.{sym, ap, ◌∙◌, slice_get, StmtTree, simple_tree, stmt_tree, stmt_tree-For}
use Rattle.source_items.specs.Items as parts
use Rattle.source_items.proofs.Stacks.{get-item}
use Rattle.source_items.proofs.items.start_of.Goals as goal

pub returns-in-For : goal.returns-in-For
returns-in-For c =
    let f = c.in-For in
    let is = ap stmt_tree f.is ∙ stmt_tree-For f.parts f.body in
    let found = rw (c.deref-in-For.ensures.value, c.deref.ensures) at c.get.ensures.lookup in
    get-item simple_tree f.parts.value.init.items c.args.number c.get.result _ found.1 found.3 ∙ ap (λ (t : StmtTree). slice_get (parts.start_of t) c.args.number) (sym is)
