-- What a reading keeps.
use Rattle.std.specs.Prelude.{ℕ, List, Option}
use Rattle.blocking_graph.specs.Graph.{GraphState}
use Rattle.event_trace.specs.Reader.{ReaderState}
use Rattle.resource_monitor.specs.Monitor.{MonitorState}
use Rattle.scheduler.specs.State.{SchedulerState}
use Rattle.source_runs.specs.declared.interpreter.Interpreter.{Interpreter}
use Rattle.schedule_reading.specs.declared.policy.AuditPolicy.{AuditPolicy}
use Rattle.schedule_reading.specs.declared.reading.End.{End}
use Rattle.schedule_reading.specs.declared.reading.Next.{Next}
use Rattle.schedule_reading.specs.declared.reading.Under.{Under}
use Rattle.schedule_reading.specs.Told.{ThreadsState}

-- the words of the globals, the last printed number of free chunks, the sum of the printed costs of all segments, and
-- the remaining steps of the source
pub record Core : Type 0 where
  pub policy : AuditPolicy
  pub interpreter : Interpreter
  pub words : List ℕ
  pub threads : ThreadsState
  pub scheduler : SchedulerState
  pub graph : GraphState
  pub monitor : MonitorState
  pub free : ℕ
  pub cost : ℕ
  pub left : ℕ

-- and what is kept of the trace, of the segment in progress and of the end
pub record Kept : Type 0 where
  pub core : Core
  pub reader : ReaderState
  pub next : Next
  pub under : Option Under
  pub end : End
