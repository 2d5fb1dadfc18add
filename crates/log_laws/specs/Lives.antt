-- The number of live threads, counting one that is about to start.
use Rattle.std.specs.Prelude.{ℕ, ◌+◌, length, Option, Some, None}
use Rattle.cap_word.specs.Runs.{Goes, Asks, Stops}
use Rattle.machine_world.specs.Local.{LocalMove, Calls, Starts, local_step}
use Rattle.machine_world.specs.Threads.{Thread, World, Setting, thread_of}

-- 1 if a step asks to start a thread
abbrev pub starting : LocalMove → ℕ
starting (Goes next) = 0
starting (Asks (Calls call) still) = 0
starting (Asks (Starts entry argument need) still) = 1
starting (Stops end) = 0

abbrev pub starting_by : Setting → World → Option Thread → ℕ
starting_by s w None = 0
starting_by s w (Some thread) = starting (local_step s.code (record { areas = w.areas; core = thread.core }))

abbrev pub starting_under : Setting → World → Option ℕ → ℕ
starting_under s w None = 0
starting_under s w (Some number) = starting_by s w (thread_of w number)

-- the number of live threads of a world, counting one that its next step is about to start
abbrev pub live : Setting → World → ℕ
live s w = length w.threads + starting_under s w w.running
