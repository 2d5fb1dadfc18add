-- The lawful log: its entries are allowed one after another from the start, followed by the edges and one stop.
use Rattle.std.specs.Prelude.{◌≡◌, ℕ, true, false, List, [], ◌∷◌, ◌++◌, map, Some}
use Rattle.blocking_graph.specs.Edges.{edges_of}
use Rattle.choice_rules.specs.EdgeLines.{edge_entry}
use Rattle.machine_world.specs.Threads.{World}
use Rattle.schedule_log.specs.declared.entries.Entry.{Entry}
use Rattle.schedule_log.specs.declared.entries.StopLine.{StopLine}
use Rattle.lawful_log.specs.Setup.{Setup, start_machine}
use Rattle.lawful_log.specs.State.{State, start_of}
use Rattle.lawful_log.specs.Deliveries.{IsComing}
use Rattle.lawful_log.specs.Choice.{IsRun}
use Rattle.lawful_log.specs.Segments.{IsOut, IsBlock, IsEnd}
use Rattle.lawful_log.specs.Stops.{IsStop}

-- an entry is allowed in the first state and leads to the second
abbrev pub IsAllowed : Setup → State → Entry → State → Type 0
IsAllowed g before (Entry.Event clock item) after = IsComing g before clock item false after
IsAllowed g before (Entry.Dropped clock item) after = IsComing g before clock item true after
IsAllowed g before (Entry.Run clock thread node) after = IsRun g before clock thread node after
IsAllowed g before (Entry.Out thread value) after = IsOut g before thread value after
IsAllowed g before (Entry.Block thread node key cost free) after = IsBlock g before thread node key cost free after
IsAllowed g before (Entry.End thread cost free) after = IsEnd g before thread cost free after
IsAllowed g before (Entry.Edge from to count cost changes) after = ⊥
IsAllowed g before (Entry.Stop line) after = ⊥

-- entries that are allowed one after another
pub data Leads (g : Setup) : State → List Entry → State → Type 0 where
  nowhere : {state : State} → Leads g state [] state
  by_entry : {before between after : State} {entry : Entry} {entries : List Entry} →
      IsAllowed g before entry between → Leads g between entries after → Leads g before (entry ∷ entries) after

-- ---- the end

-- the edges of all records, and the stop
abbrev pub ending : Setup → State → StopLine → List Entry
ending g state stop = map (edge_entry g.policy.caps) (edges_of state.past.records) ++ Entry.Stop stop ∷ []

-- ---- the log

-- a list of entries from the start to a stop, in this machine world at the stop
pub record IsLawfulLog (g : Setup) (trace : List ℕ) (entries : List Entry) (stop : StopLine) (end : World) : Type 0 where
  pub start : World
  pub starts : start_machine g ≡ Some start
  pub before_end : List Entry
  pub last : State
  pub leads : Leads g (start_of g trace start) before_end last
  pub stops : IsStop g last stop end
  pub entries_are : entries ≡ before_end ++ ending g last stop
