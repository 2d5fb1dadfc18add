-- The result of a command without a run: its status, and no world.
use Rattle.std.specs.Prelude.{ℕ, None, Result, Ok, Err}
use Rattle.command_outcomes.specs.declared.stops.Stop.{Stop}
use Rattle.capriccio_commands.specs.declared.ended.Ended.{Ended}

abbrev pub without_world : Result ℕ Stop → Result Ended Stop
without_world (Ok status) = Ok (record { status = status; last = None })
without_world (Err stop) = Err stop
