-- The data of a run in addition to the state of its log.
use Rattle.std.specs.Prelude.{◌≡◌, ℕ, List, Option, None, Some}
use Rattle.blocking_graph.specs.Edges.{edges_of}
use Rattle.blocking_graph.specs.Graph.{GraphState}
use Rattle.choice_rules.specs.Choice.{IsLawful}
use Rattle.choice_rules.specs.Policy.{all_caps}
use Rattle.choice_rules.specs.Seen.{Waiter, Past, last_choice}
use Rattle.choice_rules.specs.Waiting.{IsPlaced}
use Rattle.lawful_log.specs.Setup.{Setup}
use Rattle.lawful_log.specs.State.{State, seen_of}
use Rattle.lawful_log.specs.Waiting.{IsWaiting}
use Rattle.resource_monitor.specs.Monitor.{MonitorState}
use Rattle.scheduler.specs.State.{SchedulerState, last_of}
use Rattle.scheduler.specs.declared.choices.Choice.{Choice}

-- the scheduler's last choices of the nodes are those of the past
abbrev pub HasLasts : SchedulerState → Past → Type 0
HasLasts scheduler past = (node : ℕ) → last_of scheduler node ≡ last_choice past.taken node

-- the graph has the keys and the edges of the past
pub record IsGraphOf (graph : GraphState) (past : Past) : Type 0 where
  pub keys : graph.keys ≡ past.keys
  pub edges : graph.edges ≡ edges_of past.records

-- the monitor has the curves, the caps and the thresholds of the policy
pub record IsMonitorOf (g : Setup) (monitor : MonitorState) : Type 0 where
  pub curves : monitor.curves ≡ g.policy.curves
  pub caps : monitor.caps ≡ all_caps g.policy
  pub high : monitor.high ≡ g.policy.high
  pub low : monitor.low ≡ g.policy.low

-- a choice of the scheduler is the lawful one, and there is one
pub record IsChosenAs (g : Setup) (state : State) (clock : ℕ) (places : List (Option ℕ)) (choice : Choice) : Type 0 where
  pub waiter : Waiter
  pub lawful : IsLawful g.policy (seen_of state) clock waiter
  pub thread_is : choice.thread.number ≡ waiter.thread
  pub node_is : choice.node ≡ waiter.node
  pub waiting : IsWaiting state.machine waiter
  pub placed : IsPlaced places choice.thread

abbrev pub IsChosen : Setup → State → ℕ → List (Option ℕ) → Option Choice → Type 0
IsChosen g state clock places None = ⊥
IsChosen g state clock places (Some choice) = IsChosenAs g state clock places choice
