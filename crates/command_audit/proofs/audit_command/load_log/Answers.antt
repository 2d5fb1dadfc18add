use Rattle.std.proofs.Common.{◌∙◌}
use Rattle.std.proofs.lemmas.Result.{err_from_is_err_and}
use Rattle.c_tree.specs.ProgramView.{program_tree}
use Rattle.command_audit.proofs.Auditing.{leads-to-audit, no-log, no-program, no-source}
use Rattle.command_audit.proofs.audit_command.load_log.Goals as goal

pub returns-in_err-source-clause-answer : goal.returns-in_err-source-clause-answer
returns-in_err-source-clause-answer g c = λ trace options.
    let p = err_from_is_err_and c.from_residual.result c.from_residual.ensures.1 in
    let F = g.F.Shelf in let a = c.args in
    rw (p.1, p.2) (no-source (F.files a.shelf.now) trace a.source_name.now a.log_name.now options (F.load_faults a.shelf.now)
    (F.load_faults c.load.new.shelf) c.in_err-source.field-0.0
    c.in_err-source.ensures.answer)

pub returns-in_err-log-clause-answer : goal.returns-in_err-log-clause-answer
returns-in_err-log-clause-answer g c = λ trace options.
    let p = err_from_is_err_and c.from_residual-in_err-log.result c.from_residual-in_err-log.ensures.1 in
    let F = g.F.Shelf in let a = c.args in
    let first = c.in_ok-source.ensures in
    rw (p.1, p.2) (no-log (F.files a.shelf.now) (F.files c.load.new.shelf) trace a.source_name.now a.log_name.now c.in_ok-source.source.items options
    (F.load_faults a.shelf.now) (F.load_faults c.load.new.shelf)
    (F.load_faults c.load-2.new.shelf) c.in_err-log.field-0.0 first.answer.0 first.files first.answer.1 c.in_err-log.ensures.answer)

pub returns-in_err-program-clause-answer : goal.returns-in_err-program-clause-answer
returns-in_err-program-clause-answer g c = λ trace options.
    let p = err_from_is_err_and c.from_residual-in_err-program.result c.from_residual-in_err-program.ensures.1 in
    let F = g.F.Shelf in let a = c.args in
    let first = c.in_ok-source.ensures in
    let second = c.in_ok-log.ensures.answer in
    rw (p.1, p.2) (no-program (F.files a.shelf.now)
    (F.files c.load.new.shelf) trace a.source_name.now a.log_name.now c.in_ok-source.source.items c.in_ok-log.log.items options
    (F.load_faults a.shelf.now) (F.load_faults c.load.new.shelf)
    (F.load_faults c.load-2.new.shelf) c.in_err-program.field-0.0 first.answer.0 first.files first.answer.1 second.0 second.1
    (rw c.as_slice.ensures.value at c.in_err-program.ensures))

pub returns-clause-answer : goal.returns-clause-answer
returns-clause-answer g c = λ trace options.
    let F = g.F.Shelf in let a = c.args in
    let first = c.in_ok-source.ensures in
    let second = c.in_ok-log.ensures.answer in (
      leads-to-audit (F.files a.shelf.now) (F.files c.load.new.shelf) a.source_name.now a.log_name.now c.in_ok-source.source.items c.in_ok-log.log.items
          (program_tree c.in_ok-program.program)
          first.answer.0 first.files second.0 (rw c.as_slice.ensures.value at c.in_ok-program.ensures),
      second.1 ∙ first.answer.1,
    )
