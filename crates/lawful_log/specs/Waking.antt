-- When a machine thread wakes.
use Rattle.std.specs.Prelude.{ℕ, Option, Some, None}
use Rattle.c_mean.specs.ModelledCalls.{wakes_at}
use Rattle.machine_world.specs.Threads.{Blocked}

-- the clock at which it wakes without any event, if there is one
abbrev pub waking_time : Option Blocked → Option ℕ
waking_time None = None
waking_time (Some blocked) = wakes_at blocked.since blocked.block
