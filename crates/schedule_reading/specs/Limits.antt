-- The limits under which a log is read.
use Rattle.std.specs.Prelude.{◌≡◌, ℕ, ◌<◌, ◌≤◌, IsTrue, ◌∷◌, drop, length, slice_index}
use Rattle.c_tree.specs.Trees.{ProgramTree}
use Rattle.choice_rules.specs.Policy.{Policy, by_graph}
use Rattle.resource_monitor.specs.Monitor.{MonitorState}
use Rattle.lawful_reading.specs.Given.{Given}
use Rattle.schedule_reading.specs.declared.policy.AuditPolicy.{AuditPolicy}

-- the limits and the monitor of an audit are in their ranges, and the gate is open
pub record MayAudit (policy : AuditPolicy) (monitor : MonitorState) : Type 0 where
  pub some_chunks : 1 ≤ policy.chunks
  pub chunks : policy.chunks ≤ 131072
  pub fuel : policy.fuel ≤ 1000000000
  pub some_backlog : 1 ≤ policy.backlog
  pub backlog : policy.backlog ≤ 4096
  pub steps : policy.steps ≤ 1000000000
  pub cap_count : length policy.caps ≡ 8
  pub caps : (r : ℕ) → 0 < r → r < 8 → slice_index policy.caps r ≤ 1000000
  pub monitor_caps : monitor.caps ≡ policy.chunks ∷ drop 1 policy.caps
  pub gate : IsTrue monitor.is_open

-- the policy against which a log is read
abbrev pub policy_of : AuditPolicy → MonitorState → Policy
policy_of policy monitor = record {
  chunks = policy.chunks;
  extra = 0;
  extra_bytes = 0;
  fuel = policy.fuel;
  backlog = policy.backlog;
  caps = policy.caps;
  curves = monitor.curves;
  high = monitor.high;
  low = monitor.low;
  rule = by_graph;
}

abbrev pub given_of : ProgramTree → AuditPolicy → MonitorState → Given
given_of program policy monitor = record { program = program; policy = policy_of policy monitor; most_steps = policy.steps }
