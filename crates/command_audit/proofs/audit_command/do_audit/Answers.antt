use Rattle.std.proofs.Common.{refl}
use Rattle.std.proofs.lemmas.Result.{err_from_is_err_and}
use Rattle.std.proofs.KnownBytes.{Keeps-refl}
use Rattle.c_tree.specs.ProgramView.{program_tree}
use Rattle.command_outcomes.specs.Done.{Outside, outside_by}
use Rattle.command_audit.specs.Audits.{Audits, AuditsProgram}
use Rattle.command_outcomes.specs.Steps.{IsStatus}
use Rattle.command_outcomes.proofs.Ending.{ends-follow, stopped}
use Rattle.command_audit.proofs.Auditing.{audit-follows}
use Rattle.command_audit.proofs.audit_command.do_audit.Goals as goal

pub returns-in_err-loaded : goal.returns-in_err-loaded
returns-in_err-loaded g c =
    let p = err_from_is_err_and c.from_residual.result c.from_residual.ensures.1 in
    let F = g.F.Shelf in let S = g.S.Source in let K = g.K.Sink in let a = c.args in let shelf = c.load_log.new.shelf in
    let before : Outside = outside_by F.files F.load_faults F.store_faults S.left S.faults K.taken K.faults a.shelf.now a.trace.now a.out.now in
    let after : Outside = outside_by F.files F.load_faults F.store_faults S.left S.faults K.taken K.faults shelf a.trace.now a.out.now in
    let step = c.in_err-loaded.ensures in
    rw (p.1, p.2) (stopped IsStatus (Audits before.files before.left a.source.now a.log.now a.options) before after c.in_err-loaded.field-0.0 step.files
    step.stores
    (Keeps-refl before.left) refl (Keeps-refl before.taken) refl (step.answer before.left a.options))

pub returns : goal.returns
returns g c =
    let F = g.F.Shelf in let S = g.S.Source in let K = g.K.Sink in let a = c.args in
    let before : Outside = outside_by F.files F.load_faults F.store_faults S.left S.faults K.taken K.faults a.shelf.now a.trace.now a.out.now in
    let loaded = c.in_ok-loaded.loaded in
    let step = c.in_ok-loaded.ensures in
    let is = step.answer before.left a.options in
    let told = rw c.as_slice.ensures.value at c.tell_judgement-status.ensures in
    ends-follow IsStatus (AuditsProgram before.left a.options loaded.log.items (program_tree loaded.program))
    (Audits before.files before.left a.source.now a.log.now a.options) _ _ c.tell_judgement-status.result
    (audit-follows before.files a.source.now a.log.now loaded.log.items (program_tree loaded.program) before.left a.options is.0)
    (told _ _ _ _ _ _ step.files is.1 step.stores)
