-- The data of a run in addition to its world.
use Rattle.std.specs.Prelude.{Option, None, Some}
use Rattle.blocking_graph.specs.Graph.{GraphState}
use Rattle.event_trace.specs.Reader.{ReaderState}
use Rattle.event_trace.specs.declared.events.Event.{Event}
use Rattle.resource_monitor.specs.Monitor.{MonitorState}
use Rattle.rule_state.specs.declared.rules.RuleState.{RuleState}
use Rattle.run_course.specs.declared.course.Under.{Under}
use Rattle.run_course.specs.declared.looking.Next.{Next}

pub record Kept : Type 0 where
  pub rule : RuleState
  pub graph : GraphState
  pub monitor : MonitorState
  pub reader : ReaderState
  pub next : Next
  pub under : Option Under

-- the next line, if it has been examined
abbrev pub known : Next → Option (Option Event)
known Next.Unread = None
known (Next.Event event) = Some (Some event)
known Next.Over = Some None
