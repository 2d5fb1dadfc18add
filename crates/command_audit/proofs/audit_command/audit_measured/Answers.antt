use Rattle.std.proofs.Common.{subst}
use Rattle.c_tree.specs.ProgramView.{program_tree}
use Rattle.lawful_reading.specs.Given.{Given}
use Rattle.schedule_audit.specs.Verdicts.{IsVerdict}
use Rattle.command_audit.specs.Audits.{reading_of}
use Rattle.command_audit.proofs.Auditing.{given-is, judged, may-audit}
use Rattle.command_audit.proofs.audit_command.audit_measured.Goals as goal

pub monitor_of-requires-clause-range : goal.monitor_of-requires-clause-range
monitor_of-requires-clause-range g c = c.requires.range.run

pub audit-requires : goal.audit-requires
audit-requires g c =
    rw c.limits_of.ensures (may-audit c.args.options c.in-Ok.monitor c.requires.range c.in-Ok.ensures)

pub returns-in-Ok : goal.returns-in-Ok
returns-in-Ok g c =
    let S = g.S.Source in let a = c.args in let after = c.audit.new.trace in
    let tree = program_tree a.program.now in
    let told = rw c.limits_of.ensures at c.audit.ensures.verdict in
    let judged_so = subst (λ (x : Given). IsVerdict x (S.left a.trace.now) a.log.now c.audit.result)
    (given-is tree a.options c.in-Ok.monitor c.in-Ok.ensures) told in
    rw c.judgement_of.ensures (judged (reading_of tree a.options) (S.left a.trace.now) a.log.now (S.faults a.trace.now)
    (S.faults after) c.audit.result judged_so c.audit.ensures.counts)
