-- The latest clock of a run: the latest time of an event, plus, for each retired instruction, its one tick and the
-- ticks of one sleep or one timed wait.
use Rattle.std.specs.Prelude.{◌≤◌, IfSome}
use Rattle.std.specs.List.{AllByRecursion}
use Rattle.choice_rules.specs.Clock.{latest}
use Rattle.lawful_log.specs.Waking.{waking_time}
use Rattle.machine_world.specs.Threads.{World}

-- the clock isn't later, nor does a thread wake later that sleeps
pub record IsTimely (w : World) : Type 0 where
  pub clock : w.clock ≤ latest w.cost
  pub sleepers : AllByRecursion (λ thread. IfSome (waking_time thread.blocked) (λ time. time ≤ latest w.cost)) w.threads
