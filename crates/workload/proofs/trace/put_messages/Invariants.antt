use Rattle.workload.proofs.Common.{◌≡◌, ◌++◌, message_line, lines_below}
use Rattle.workload.proofs.trace.put_messages.Given as goal

abbrev pub invariant-loop-j : goal.invariant-loop-j
invariant-loop-j l = l.text.items ≡ l.fn.text.items ++ lines_below message_line l.j
