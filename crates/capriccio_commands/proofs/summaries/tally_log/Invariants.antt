use Rattle.capriccio_commands.proofs.Counting.{IsTallying}
use Rattle.capriccio_commands.proofs.FitCounting.{IsReading}
use Rattle.capriccio_commands.proofs.summaries.tally_log.Given as goal

abbrev pub invariant-loop-line : goal.invariant-loop-line
invariant-loop-line l = IsTallying l.log l.line-iterator l.tally × IsReading l.line-iterator l.tally
