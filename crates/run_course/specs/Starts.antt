-- What a run is given, and what stays the same during it.
use Rattle.std.specs.Prelude.{◌≡◌, IsTrue}
use Rattle.accepted_pairs.specs.Accepting.{accepted_tree}
use Rattle.choice_rules.specs.Policy.{Rule, by_graph}
use Rattle.lawful_log.specs.Setup.{Setup}
use Rattle.resource_monitor.specs.Monitor.{MonitorState}
use Rattle.lawful_log.specs.Beside.{IsMonitorOf}
use Rattle.thread_core.specs.Making.{IsPolicy, IsStart}
use Rattle.thread_core.specs.Worlds.{Held}
use Rattle.thread_core.specs.declared.policy.WorldPolicy.{WorldPolicy}

abbrev pub world_policy : Setup → WorldPolicy
world_policy g = record {
  chunks = g.policy.chunks;
  extra = g.policy.extra;
  extra_bytes = g.policy.extra_bytes;
  backlog = g.policy.backlog;
  caps = g.policy.caps;
}

-- the world is newly made from the program, image and certificate under the policy, which chooses by this rule, and the
-- monitor is that of the policy, with its gate open
pub record IsAtStartBy (choosing : Rule) (g : Setup) (held : Held) (monitor : MonitorState) : Type 0 where
  pub program : accepted_tree held.accepted ≡ g.program
  pub image : held.accepted.image ≡ g.image
  pub certificate : held.accepted.certificate ≡ g.certificate
  pub rule : g.policy.rule ≡ choosing
  pub ranges : IsPolicy held.accepted (world_policy g) g.policy.fuel
  pub made : IsStart held.accepted (world_policy g) g.policy.fuel held
  pub monitor_is : IsMonitorOf g monitor
  pub gate : IsTrue monitor.is_open

-- and the rule is the priority rule
abbrev pub IsAtStart : Setup → Held → MonitorState → Type 0
IsAtStart g held monitor = IsAtStartBy by_graph g held monitor

-- the run continues in the same program under the same policy
pub record KeepsRun (before after : Held) : Type 0 where
  pub accepted : after.accepted ≡ before.accepted
  pub setting : after.setting ≡ before.setting
  pub chunks : after.machine.areas.pool.count ≡ before.machine.areas.pool.count
