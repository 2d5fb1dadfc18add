use Rattle.std.proofs.lemmas.Result.{err_from_is_err_and}
use Rattle.c_tree.specs.ProgramView.{program_tree}
use Rattle.command_audit.proofs.Auditing.{judgement-told, unjudged}
use Rattle.command_audit.proofs.audit_command.tell_judgement.Goals as goal

pub returns-in_err-judgement : goal.returns-in_err-judgement
returns-in_err-judgement g c =
    let p = err_from_is_err_and c.from_residual.result c.from_residual.ensures.1 in
    let S = g.S.Source in let K = g.K.Sink in let a = c.args in let read = c.audit_program.new.trace in
    rw (p.1, p.2) (unjudged a.options a.log.now (program_tree a.program.now) (S.left a.trace.now) (S.left read) (S.faults a.trace.now) (S.faults read)
    (K.taken a.out.now) (K.faults a.out.now) c.in_err-judgement.field-0.0 c.in_err-judgement.ensures)

pub returns : goal.returns
returns g c =
    let S = g.S.Source in let K = g.K.Sink in let a = c.args in let read = c.audit_program.new.trace in let out = c.print_judgement.new.out in
    judgement-told a.options a.log.now (program_tree a.program.now) (S.left a.trace.now) (S.left read) (S.faults a.trace.now) (S.faults read)
    (K.taken a.out.now) (K.taken out) (K.faults a.out.now) (K.faults out) c.in_ok-judgement.judgement c.print_judgement.result
    c.in_ok-judgement.ensures c.print_judgement.ensures
