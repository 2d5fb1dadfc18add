use Rattle.command_rows.specs.Moments.{IsAt, after_turn}
use Rattle.command_rows.proofs.crowds.last.Given as goal

abbrev pub invariant-loop-number : goal.invariant-loop-number
invariant-loop-number l = IsAt (after_turn l.turn) l.world
