use Rattle.schedule_audit.proofs.Common.{◌≡◌, ◌+◌, ◌≤◌, length, Given, IsReadTo, StandsSomehow}
use Rattle.schedule_audit.proofs.audits.lines.Given as goal

abbrev pub invariant-loop-end : goal.invariant-loop-end
invariant-loop-end g l = record {
  stands : StandsSomehow l.reading;
  read : (given : Given) → IsReadTo given (g.S.Source.left l.fn.trace) l.fn.log l.fn.log 1 l.fn.reading (g.S.Source.left l.fn.trace) → IsReadTo given (g.S.Source.left l.fn.trace) l.fn.log l.rest l.line l.reading (g.S.Source.left l.trace);
  counts : g.S.Source.faults l.trace ≡ g.S.Source.faults l.fn.trace;
  few : l.line + length l.rest ≤ length l.fn.log + 1;
}

abbrev pub decreases-loop-end : goal.decreases-loop-end
decreases-loop-end g l = length l.rest
