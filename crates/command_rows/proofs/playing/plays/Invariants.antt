use Rattle.command_rows.specs.Moments.{IsAt}
use Rattle.command_rows.proofs.playing.plays.Given as goal

abbrev pub invariant-loop-step : goal.invariant-loop-step
invariant-loop-step l = IsAt l.run.moment l.world
