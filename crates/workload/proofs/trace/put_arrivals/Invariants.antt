use Rattle.workload.proofs.Common.{◌≡◌, ◌++◌, arrival_line, lines_below}
use Rattle.workload.proofs.trace.put_arrivals.Given as goal

abbrev pub invariant-loop-j : goal.invariant-loop-j
invariant-loop-j l = l.text.items ≡ l.fn.text.items ++ lines_below arrival_line l.j
