use Rattle.capriccio_commands.proofs.Common.{refl, subst, List, ℕ, Ok, Err, err_from_is_err_and, Outside, IsPrinted, files-keep, Demos, Keeps-refl}
use Rattle.capriccio_commands.proofs.Shown.{shown-told, shown-cut, shown-stopped}
use Rattle.capriccio_commands.proofs.commands.demo.Goals as goal

pub returns-in_err-status : goal.returns-in_err-status
returns-in_err-status g c = λ files loads stores left reads.
    let p = err_from_is_err_and c.from_residual.result c.from_residual.ensures.1 in
    let K = g.K.Sink in let a = c.args in
    let before : Outside = record { files = files; loads = loads; stores = stores; left = left; reads = reads; taken = K.taken a.out.now; writes = K.faults a.out.now } in
    rw (p.1, p.2) (shown-stopped (Demos a.number) before c.in_err-status.field-0.0 c.in_err-status.ensures)

pub returns-in-Ok : goal.returns-in-Ok
returns-in-Ok g c = λ files loads stores left reads.
    let K = g.K.Sink in let a = c.args in let shown = c.in_ok-status.field-0 in
    let before : Outside = record { files = files; loads = loads; stores = stores; left = left; reads = reads; taken = K.taken a.out.now; writes = K.faults a.out.now } in
    let after : Outside = record { files = files; loads = loads; stores = stores; left = left; reads = reads; taken = K.taken c.print.new.out; writes = K.faults c.print.new.out } in
    let printed = subst (λ (text : List ℕ). IsPrinted shown.status text before.taken after.taken before.writes after.writes (Ok c.in-Ok.told)) c.as_slice.ensures.value c.in-Ok.ensures in
    shown-told (Demos a.number) before after shown c.in-Ok.told c.in_ok-status.ensures (files-keep files) (Keeps-refl left) refl refl refl printed

pub returns : goal.returns
returns g c = λ files loads stores left reads.
    let K = g.K.Sink in let a = c.args in let shown = c.in_ok-status.field-0 in
    let before : Outside = record { files = files; loads = loads; stores = stores; left = left; reads = reads; taken = K.taken a.out.now; writes = K.faults a.out.now } in
    let after : Outside = record { files = files; loads = loads; stores = stores; left = left; reads = reads; taken = K.taken c.print.new.out; writes = K.faults c.print.new.out } in
    let printed = subst (λ (text : List ℕ). IsPrinted shown.status text before.taken after.taken before.writes after.writes (Err c.in-Err.stop)) c.as_slice.ensures.value c.in-Err.ensures in
    shown-cut (Demos a.number) before after shown c.in-Err.stop c.in_ok-status.ensures (files-keep files) (Keeps-refl left) refl refl refl printed
