use Rattle.pair_commands.proofs.Common.{refl, err_from_is_err_and, Outside, outside_beside, Graphs, IsStatus, stopped, printed-now, Keeps-refl}
use Rattle.pair_commands.proofs.graph_command.do_graph.Goals as goal

pub returns-in_err-text : goal.returns-in_err-text
returns-in_err-text g c = λ left reads.
    let p = err_from_is_err_and c.from_residual.result c.from_residual.ensures.1 in
    let F = g.F.Shelf in let K = g.K.Sink in let a = c.args in let shelf = c.graph_source.new.shelf in
    let before : Outside = outside_beside F.files F.load_faults F.store_faults left reads K.taken K.faults a.shelf.now a.out.now in
    let after : Outside = outside_beside F.files F.load_faults F.store_faults left reads K.taken K.faults shelf a.out.now in
    let step = c.in_err-text.ensures in
    rw (p.1, p.2) (stopped IsStatus (Graphs before.files a.source.now a.options.max_path) before after c.in_err-text.field-0.0 step.files step.stores (Keeps-refl left) refl (Keeps-refl before.taken) refl step.answer)

pub returns : goal.returns
returns g c = λ left reads.
    let F = g.F.Shelf in let K = g.K.Sink in let a = c.args in let shelf = c.graph_source.new.shelf in
    let before : Outside = outside_beside F.files F.load_faults F.store_faults left reads K.taken K.faults a.shelf.now a.out.now in
    let after : Outside = outside_beside F.files F.load_faults F.store_faults left reads K.taken K.faults shelf c.print.new.out in
    let text = c.in_ok-text.text in
    let step = c.in_ok-text.ensures in
    let is = step.answer in
    printed-now (Graphs before.files a.source.now a.options.max_path) before after 0 text.items c.print.result is.0 step.files (Keeps-refl left) is.1 step.stores refl
    (rw c.as_slice.ensures.value at c.print.ensures)
