use Rattle.command_audit.proofs.audit_command.print_judgement.Goals as goal

pub returns-in-Ok : goal.returns-in-Ok
returns-in-Ok g c = rw (c.as_slice.ensures.value, c.in-Ok.ensures, c.status_of.ensures) at c.print.ensures
