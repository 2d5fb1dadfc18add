-- The reason for a choice: from the choice if no thread counted as one at `accept`, and the one without scores.
use Rattle.std.specs.Prelude.{◌≡◌, ℕ, Bool, false, List, [], Option, Some, None, nat_eq, if◌then◌else◌}
use Rattle.blocking_graph.specs.declared.edges.EdgeLine.{EdgeLine}
use Rattle.cap_word.specs.declared.threads.ThreadId.{ThreadId}
use Rattle.resource_monitor.specs.Monitor.{MonitorState}
use Rattle.scheduler.specs.LawfulChoice.{is_eligible, IsLawfulChoice}
use Rattle.scheduler.specs.Scores.{score}
use Rattle.scheduler.specs.declared.choices.Choice.{Choice}
use Rattle.report.specs.declared.again.reasons.Reason.{Reason}
use Rattle.report.specs.declared.again.reasons.Reason.TheVariants.{Gate, Score, Turn}

-- the choice is that of this thread
abbrev pub is_of : ℕ → Option Choice → Bool
is_of thread None = false
is_of thread (Some choice) = nat_eq choice.thread.number thread

-- the reason for the choice of a thread, from the choice without the gate and the one without scores
abbrev pub reason_by : ℕ → Option Choice → Option Choice → Reason
reason_by thread ungated unscored = if is_of thread ungated then (if is_of thread unscored then Turn else Score) else Gate

-- the reason for the choice of a thread, given the queues of the nodes, the threads, the resources, the edges and the
-- last choices
pub record IsReason (queue : ℕ → List ThreadId) (is_ready at_accept : ThreadId → Bool) (any_elsewhere : Bool) (monitor : MonitorState) (edges : List EdgeLine) (last : ℕ → ℕ) (thread : ℕ) (reason : Reason) : Type 0 where
  pub ungated : Option Choice
  -- no thread counts as one at `accept`, so the gate holds none back
  pub past_gate : IsLawfulChoice queue (is_eligible is_ready (λ other. false) any_elsewhere monitor.is_open) (score monitor edges) last ungated
  pub unscored : Option Choice
  -- without edges each score is 0
  pub by_turn : IsLawfulChoice queue (is_eligible is_ready at_accept any_elsewhere monitor.is_open) (score monitor []) last unscored
  pub is : reason ≡ reason_by thread ungated unscored
