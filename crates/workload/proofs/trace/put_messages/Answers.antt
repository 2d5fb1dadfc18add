use Rattle.workload.proofs.Common.{◌∙◌, message_line}
use Rattle.workload.proofs.Written.{lines_none, lines_more}
use Rattle.workload.proofs.trace.put_messages.Goals as goal

pub loop-j-init : goal.loop-j-init
loop-j-init c = lines_none c.args.text.now.items message_line

pub loop-j-preserved : goal.loop-j-preserved
loop-j-preserved c = c.in_ok-put_message.ensures ∙ lines_more c.args.text.now.items c.loop-j.text.items message_line c.loop-j.j c.loop-j.invariant
