-- The lines of a run.
use Rattle.std.specs.Prelude.{ℕ, List, [], ◌∷◌, ◌++◌, map}
use Rattle.blocking_graph.specs.declared.edges.EdgeLine.{EdgeLine}
use Rattle.event_trace.specs.declared.events.EventKind.{EventKind}
use Rattle.choice_rules.specs.Deliveries.{item_of}
use Rattle.choice_rules.specs.EdgeLines.{edge_entry}
use Rattle.run_course.specs.declared.ends.Failure.{Failure}
use Rattle.schedule_log.specs.declared.entries.Entry.{Entry}
use Rattle.schedule_log.specs.declared.entries.StopLine.{StopLine}
use Rattle.buffered_writer.specs.declared.writer.PutError.{PutError}
use Rattle.thread_core.specs.declared.outside.Delivered.{Delivered}

-- the line of an event
abbrev pub coming_line : ℕ → EventKind → Delivered → Entry
coming_line clock kind Delivered.Queued = Entry.Event clock (item_of kind)
coming_line clock kind Delivered.Dropped = Entry.Dropped clock (item_of kind)

-- the lines of all edges
abbrev pub edge_lines : List ℕ → List EdgeLine → List Entry
edge_lines caps edges = map (edge_entry caps) edges

-- the lines at the end
abbrev pub end_lines : List ℕ → List EdgeLine → StopLine → List Entry
end_lines caps edges stop = edge_lines caps edges ++ Entry.Stop stop ∷ []

-- the failure of a run whose log couldn't be written
abbrev pub put_failure : PutError → Failure
put_failure PutError.WriteFault = Failure.Write
put_failure PutError.Memory = Failure.Memory
