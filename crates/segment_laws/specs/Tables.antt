-- Calls through a table: the trap if the index is out of range.
use Rattle.std.specs.Prelude.{◌≡◌, ℕ, List, Some}
use Rattle.cap_word.specs.Calls.{Finish}
use Rattle.cap_word.specs.Runs.{Stops}
use Rattle.cap_word.specs.declared.traps.TrapKind.{TrapKind}
use Rattle.flat_code.specs.Frames.{FlatThread}
use Rattle.machine_world.specs.Local.{Local, Trapped}
use Rattle.machine_world.specs.Places.{Checked}
use Rattle.segment_laws.specs.Ways.{ComesTo}

-- the machine reaches the same trap, with nothing changed
pub record TableTrapsAlike (c : Checked) (code : List ℕ) (l : Local) (t : FlatThread) (finish : Finish) : Type 0 where
  pub steps : ℕ
  pub comes : ComesTo c code steps l (Stops (Trapped TrapKind.Table))
  pub same : finish ≡ record { trap = Some TrapKind.Table; globals = t.globals }
