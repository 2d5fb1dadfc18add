-- The additional data of a repeated run, and the next choice of it.
use Rattle.std.specs.Prelude.{◌≡◌, ℕ, Bool, List, Some}
use Rattle.blocking_graph.specs.Graph.{GraphState, empty_graph}
use Rattle.cap_word.specs.declared.threads.ThreadId.{ThreadId}
use Rattle.resource_monitor.specs.Gate.{gate_after}
use Rattle.resource_monitor.specs.Pressure.{pressures}
use Rattle.resource_monitor.specs.Monitor.{MonitorState}
use Rattle.scheduler.specs.LawfulChoice.{is_eligible, IsLawfulChoice}
use Rattle.scheduler.specs.Scores.{score}
use Rattle.scheduler.specs.State.{SchedulerState, started, queue_of, last_of, IsNoted}
use Rattle.scheduler.specs.declared.choices.Choice.{Choice}
use Rattle.report.specs.Counts.{with_reason}
use Rattle.report.specs.Reasons.{IsReason}
use Rattle.report.specs.declared.again.reasons.Choices.{Choices}
use Rattle.report.specs.declared.again.reasons.Reason.{Reason}

-- the waiting threads, the blocking graph, the resources, and the counts of reasons for the choices so far
pub record Course : Type 0 where
  pub scheduler : SchedulerState
  pub graph : GraphState
  pub monitor : MonitorState
  pub choices : Choices

-- the state before the first choice
abbrev pub start_of : MonitorState → Course
start_of monitor = record { scheduler = started; graph = empty_graph; monitor = monitor; choices = record { by_gate = 0; by_score = 0; by_turn = 0 } }

-- the resources after these uses are observed
abbrev pub seen : MonitorState → List ℕ → MonitorState
seen monitor uses = record monitor { uses = uses; is_open = gate_after monitor.high monitor.low monitor.is_open (pressures monitor.curves uses monitor.caps) }

-- a choice among the threads of a world at these uses: it is the lawful one, its thread leaves its node, and its reason
-- is counted
pub record Decides (is_ready at_accept : ThreadId → Bool) (any_elsewhere : Bool) (uses : List ℕ) (old new : Course) (choice : Choice) : Type 0 where
  pub monitor : new.monitor ≡ seen old.monitor uses
  pub graph : new.graph ≡ old.graph
  pub lawful : IsLawfulChoice (queue_of old.scheduler) (is_eligible is_ready at_accept any_elsewhere new.monitor.is_open) (score new.monitor old.graph.edges) (last_of old.scheduler) (Some choice)
  pub noted : IsNoted old.scheduler new.scheduler choice
  pub reason : Reason
  pub decided : IsReason (queue_of old.scheduler) is_ready at_accept any_elsewhere new.monitor old.graph.edges (last_of old.scheduler) choice.thread.number reason
  pub counted : new.choices ≡ with_reason reason old.choices
