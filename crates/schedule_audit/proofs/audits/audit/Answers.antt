use Rattle.c_tree.specs.ProgramView.{program_tree}
use Rattle.schedule_audit.proofs.Common.{[], Given, start_of}
use Rattle.schedule_reading.specs.Limits.{given_of}
use Rattle.schedule_audit.proofs.Judged.{begun}
use Rattle.schedule_audit.proofs.Telling.{counts_verdict, is_verdict}
use Rattle.schedule_audit.proofs.audits.audit.Goals as goal

pub lines-judged-requires : goal.lines-judged-requires
lines-judged-requires g c =
    let given : Given = given_of (program_tree c.args.program.now) c.args.policy c.args.monitor in
    (given, start_of given [], c.in-Ok.ensures.stands [])

pub returns-in-Ok-clause-verdict : goal.returns-in-Ok-clause-verdict
returns-in-Ok-clause-verdict g c =
    let given : Given = given_of (program_tree c.args.program.now) c.args.policy c.args.monitor in
    let left = g.S.Source.left c.args.trace.now in
    rw c.verdict_of.ensures (is_verdict given left c.args.log.now c.lines-judged.result
    (c.lines-judged.ensures.judged given (begun given left c.args.log.now c.in-Ok.reading c.in-Ok.ensures.stands c.in-Ok.ensures.reader c.in-Ok.ensures.unread)))

pub returns-in-Ok-clause-counts : goal.returns-in-Ok-clause-counts
returns-in-Ok-clause-counts g c =
    rw c.verdict_of.ensures (counts_verdict c.lines-judged.result (g.S.Source.faults c.args.trace.now) (g.S.Source.faults c.lines-judged.new.trace) c.lines-judged.ensures.counts)
