use Rattle.schedule_log.proofs.Common.{map, take, canonical_integer, after_blanks, Writes, log_state}
use Rattle.schedule_log.proofs.writing.write_averages.Given as goal

abbrev pub invariant-loop-value : goal.invariant-loop-value
invariant-loop-value g l =
    Writes (log_state l.fn.writer (g.K.Sink.taken l.fn.out) (g.K.Sink.faults l.fn.out))
    (log_state l.writer (g.K.Sink.taken l.out) (g.K.Sink.faults l.out)) (after_blanks (map canonical_integer (take l.value-index l.value-items)))
