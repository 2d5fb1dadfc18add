use Rattle.schedule_audit.proofs.Composing.{line_rules}
use Rattle.schedule_audit.proofs.Lined.{no_line, only_line}
use Rattle.schedule_audit.proofs.audits.take_line.Goals as goal

pub returns-in-Ok-clause-rules : goal.returns-in-Ok-clause-rules
returns-in-Ok-clause-rules g c = λ s state stands.
    line_rules s state c.args.reading.now c.args.line.now (g.S.Source.left c.args.trace.now) c.take_entry.new.reading (g.S.Source.left c.take_entry.new.trace) c.in-Ok.entry c.take_entry.result (record { fits = c.in-Ok.ensures.read.0; text = c.in-Ok.ensures.read.1 })
    (only_line c.args.line.now c.read_entry.result c.read_entry.ensures.back c.in-Ok.entry c.in-Ok.is) (c.take_entry.ensures.rules s state stands)

pub returns-in-Err-Line-clause-rules : goal.returns-in-Err-Line-clause-rules
returns-in-Err-Line-clause-rules g c = λ s state stands t entry l.
    absurd (no_line c.args.line.now c.read_entry.result c.read_entry.ensures.back c.in-Err-Line.field-0 c.in-Err-Line.is entry l)
