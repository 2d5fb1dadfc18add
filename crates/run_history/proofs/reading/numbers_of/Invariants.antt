use Rattle.run_history.proofs.Readings.{IsReading}
use Rattle.run_history.proofs.Seen.{Reads}
use Rattle.run_history.proofs.reading.numbers_of.Given as goal

-- the lines so far are those of entries, and what is gathered is of these
abbrev pub invariant-loop-line : goal.invariant-loop-line
invariant-loop-line g l = IsReading l.log l.line-iterator (Reads g.W.Watch.has_seen l.answering l.accepts l.window l.chunks l.fn.watch l.watch l.course.history l.course.numbers l.course.answerer)
