-- Existence and uniqueness of the lawful log.
use Rattle.std.specs.Prelude.{◌≡◌, ℕ, List}
use Rattle.lawful_log.specs.Lawful.{IsLawfulLog}
use Rattle.lawful_log.specs.Setup.{Setup}
use Rattle.machine_world.specs.Threads.{World}
use Rattle.schedule_log.specs.declared.entries.Entry.{Entry}
use Rattle.schedule_log.specs.declared.entries.StopLine.{StopLine}

-- a list of entries is the lawful log, with one stop and one machine world at it, and every lawful log is this one
pub record HasOneLog (g : Setup) (trace : List ℕ) : Type 0 where
  pub entries : List Entry
  pub stop : StopLine
  pub end : World
  pub lawful : IsLawfulLog g trace entries stop end
  pub only : (others : List Entry) (other : StopLine) (w : World) → IsLawfulLog g trace others other w → (others ≡ entries) × ((other ≡ stop) × (w ≡ end))
