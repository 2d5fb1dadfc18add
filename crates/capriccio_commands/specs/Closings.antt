-- The end of a command from the end of its run.
use Rattle.std.specs.Prelude.{◌≡◌, Some, Result, Ok, Err}
use Rattle.runner.specs.declared.ends.RunEnd.{RunEnd}
use Rattle.runner.specs.declared.ends.RunEnd.TheVariants as end
use Rattle.thread_core.specs.Worlds.{Held}
use Rattle.command_outcomes.specs.declared.stops.Stop.{Stop}
use Rattle.command_outcomes.specs.declared.stops.Stop.TheVariants.{Failed}
use Rattle.capriccio_commands.specs.declared.ended.Ended.{Ended}
use Rattle.command_outcomes.specs.declared.faults.Fault.TheVariants.{Read, Write, Memory}

-- the status of the stop with the world, or a fault
abbrev pub IsClosed : Held → RunEnd → Result Ended Stop → Type 0
IsClosed world end.Done answer = answer ≡ Ok (record { status = 0; last = Some world })
IsClosed world (end.BadTrace line) answer = answer ≡ Ok (record { status = 4; last = Some world })
IsClosed world end.Idle answer = answer ≡ Ok (record { status = 10; last = Some world })
IsClosed world (end.Trap thread kind) answer = answer ≡ Ok (record { status = 11; last = Some world })
IsClosed world (end.NoChunk thread) answer = answer ≡ Ok (record { status = 12; last = Some world })
IsClosed world (end.Fuel thread) answer = answer ≡ Ok (record { status = 13; last = Some world })
IsClosed world (end.Threads thread) answer = answer ≡ Ok (record { status = 14; last = Some world })
IsClosed world end.ReadFault answer = answer ≡ Err (Failed Read)
IsClosed world end.WriteFault answer = answer ≡ Err (Failed Write)
IsClosed world end.Memory answer = answer ≡ Err (Failed Memory)
