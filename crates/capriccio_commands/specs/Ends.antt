-- The world that a run returns, and the result of a command that may have run one.
use Rattle.std.specs.Prelude.{◌≡◌, ◌+◌, List, [], Option, Some, None}
use Rattle.accepted_pairs.specs.Accepting.{accepted_tree}
use Rattle.lawful_log.specs.Good.{checked_of}
use Rattle.lawful_log.specs.Setup.{Setup, setting_of, start_machine}
use Rattle.machine_world.specs.Runs.{Action, after_actions}
use Rattle.machine_world.specs.Stretches.{IsSound}
use Rattle.machine_world.specs.Threads.{World}
use Rattle.thread_core.specs.Worlds.{Held}
use Rattle.command_outcomes.specs.Outcome.{Outcome, Ran}
use Rattle.capriccio_commands.specs.declared.ended.Ended.{Ended}

-- some actions of the machine lead to this world from the one in which a run of the setup starts
pub record IsReachable (setup : Setup) (machine : World) : Type 0 where
  pub start : World
  pub starts : start_machine setup ≡ Some start
  pub actions : List Action
  pub leads : after_actions (setting_of setup) actions start ≡ Some machine

-- the world that was run: it was made from this program, image, certificate and policy, and is the machine world at the stop;
-- the machine reaches it from its start, every live thread in it is in place, and held and free chunks are exactly the pool
pub record IsWorldOf (ran : Ran) (world : Held) : Type 0 where
  pub program : accepted_tree world.accepted ≡ ran.setup.program
  pub image : world.accepted.image ≡ ran.setup.image
  pub certificate : world.accepted.certificate ≡ ran.setup.certificate
  pub setting : world.setting ≡ setting_of ran.setup
  pub chunks : world.machine.areas.pool.count ≡ ran.setup.policy.chunks + ran.setup.policy.extra
  pub machine : world.machine ≡ ran.end
  pub reached : IsReachable ran.setup world.machine
  pub sound : IsSound (checked_of ran.setup) world.machine

-- a world is returned exactly if a run reached its stop
abbrev pub IsLast : Option Ran → Option Held → Type 0
IsLast None None = Unit {0}
IsLast (Some ran) (Some world) = IsWorldOf ran world
IsLast _ _ = ⊥

-- the end of a command whose outcome has no line for standard error: its status, and the world that was run
abbrev pub IsEnd : Outcome → Ended → Type 0
IsEnd outcome ended = (outcome.status ≡ ended.status) × (outcome.line ≡ []) × IsLast outcome.last ended.last
