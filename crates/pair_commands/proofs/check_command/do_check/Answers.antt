use Rattle.pair_commands.proofs.Common.{refl, err_from_is_err_and, Outside, outside_beside, Checks, verdict_status, verdict_line, Failed, IsStatus, stopped, printed-now, Keeps-refl}
use Rattle.command_outcomes.specs.declared.faults.Fault.TheVariants.{Memory}
use Rattle.pair_commands.proofs.check_command.do_check.Goals as goal

pub returns-in_err-verdict : goal.returns-in_err-verdict
returns-in_err-verdict g c = λ left reads.
    let p = err_from_is_err_and c.from_residual.result c.from_residual.ensures.1 in
    let F = g.F.Shelf in let K = g.K.Sink in let a = c.args in let shelf = c.check_files.new.shelf in
    let before : Outside = outside_beside F.files F.load_faults F.store_faults left reads K.taken K.faults a.shelf.now a.out.now in
    let after : Outside = outside_beside F.files F.load_faults F.store_faults left reads K.taken K.faults shelf a.out.now in
    let step = c.in_err-verdict.ensures in
    rw (p.1, p.2) (stopped IsStatus (Checks before.files a.source.now a.image.now a.certificate.now) before after c.in_err-verdict.field-0.0 step.files step.stores (Keeps-refl left) refl (Keeps-refl before.taken) refl step.answer)

pub returns-in-Ok : goal.returns-in-Ok
returns-in-Ok g c = λ left reads.
    let F = g.F.Shelf in let K = g.K.Sink in let a = c.args in let shelf = c.check_files.new.shelf in
    let before : Outside = outside_beside F.files F.load_faults F.store_faults left reads K.taken K.faults a.shelf.now a.out.now in
    let after : Outside = outside_beside F.files F.load_faults F.store_faults left reads K.taken K.faults shelf c.print.new.out in
    let verdict = c.in_ok-verdict.verdict in
    let step = c.in_ok-verdict.ensures in
    let is = step.answer in
    printed-now (Checks before.files a.source.now a.image.now a.certificate.now) before after (verdict_status verdict) (verdict_line verdict) c.print.result is.0 step.files (Keeps-refl left) is.1 step.stores refl
    (rw (c.as_slice.ensures.value, c.in-Ok.ensures, c.status.ensures) at c.print.ensures)

pub returns-in-Err : goal.returns-in-Err
returns-in-Err g c = λ left reads.
    let F = g.F.Shelf in let K = g.K.Sink in let a = c.args in let shelf = c.check_files.new.shelf in
    let before : Outside = outside_beside F.files F.load_faults F.store_faults left reads K.taken K.faults a.shelf.now a.out.now in
    let after : Outside = outside_beside F.files F.load_faults F.store_faults left reads K.taken K.faults shelf a.out.now in
    let step = c.in_ok-verdict.ensures in
    let is = step.answer in
    stopped IsStatus (Checks before.files a.source.now a.image.now a.certificate.now) before after (Failed Memory) step.files step.stores (Keeps-refl left) refl (Keeps-refl before.taken) refl is.1
