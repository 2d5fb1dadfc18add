use Rattle.capriccio_commands.proofs.Common.{◌≡◌, [], lines_of}
use Rattle.capriccio_commands.proofs.Counting.{last_in}
use Rattle.capriccio_commands.proofs.summaries.last_line.Given as goal

abbrev pub invariant-loop-line : goal.invariant-loop-line
invariant-loop-line l = last_in l.last l.line-iterator ≡ last_in [] (lines_of l.log)
