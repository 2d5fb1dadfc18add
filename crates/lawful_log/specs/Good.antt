-- A good log: the steps of each of its segments are a good stretch from the world in which the segment begins.
use Rattle.std.specs.Prelude.{◌≡◌, List, [], ◌∷◌, Some}
use Rattle.std.specs.Int.{w32, cast_unsigned}
use Rattle.c_lower.specs.ProgramCode.{lowered}
use Rattle.c_mean.specs.ModelledCalls.{Delivery, Arrival, Message}
use Rattle.machine_world.specs.GoodRuns as runs
use Rattle.machine_world.specs.GoodRuns.{IsGoodRun}
use Rattle.machine_world.specs.Places.{Checked}
use Rattle.machine_world.specs.Threads.{World}
use Rattle.schedule_log.specs.declared.entries.Entry.{Entry}
use Rattle.schedule_log.specs.declared.entries.Item.{Item}
use Rattle.schedule_log.specs.declared.entries.StopLine.{StopLine}
use Rattle.lawful_log.specs.Setup.{Setup, setting_of, start_machine}

-- the delivery of an entry's item
abbrev pub delivered : Item → Delivery
delivered (Item.Arrive value) = Arrival (cast_unsigned w32 value)
delivered (Item.Data channel value) = Message channel (cast_unsigned w32 value)

-- what the printed lines do to the machine: the clock advances to that of each `event`, `drop` and `run`, each item is
-- delivered, and each segment has its printed cost
abbrev pub stop_turns : StopLine → List runs.Entry
stop_turns (StopLine.Cut thread stop cost free) = runs.Turn thread cost ∷ []
stop_turns _ = []

abbrev pub machine_entries : List Entry → List runs.Entry
machine_entries [] = []
machine_entries (Entry.Event clock item ∷ entries) = runs.Waits clock ∷ runs.Comes (delivered item) ∷ machine_entries entries
machine_entries (Entry.Dropped clock item ∷ entries) = runs.Waits clock ∷ runs.Comes (delivered item) ∷ machine_entries entries
machine_entries (Entry.Run clock thread node ∷ entries) = runs.Waits clock ∷ machine_entries entries
machine_entries (Entry.Out thread value ∷ entries) = machine_entries entries
machine_entries (Entry.Block thread node key cost free ∷ entries) = runs.Turn thread cost ∷ machine_entries entries
machine_entries (Entry.End thread cost free ∷ entries) = runs.Turn thread cost ∷ machine_entries entries
machine_entries (Entry.Edge from to count cost changes ∷ entries) = machine_entries entries
machine_entries (Entry.Stop line ∷ entries) = stop_turns line

-- the checked code of the run
abbrev pub checked_of : Setup → Checked
checked_of g = record { flat = lowered g.program; certificate = g.certificate }

-- the log is good: each of its segments is a good stretch of the machine, from the start on
pub record IsGoodLog (g : Setup) (entries : List Entry) : Type 0 where
  pub start : World
  pub starts : start_machine g ≡ Some start
  pub good : IsGoodRun (checked_of g) (setting_of g) (machine_entries entries) start
