-- Operations that stay in their frame and ask nothing, and their traps.
use Rattle.std.specs.Prelude.{◌≡◌, ℕ, List, Some}
use Rattle.cap_word.specs.Calls.{Finish}
use Rattle.cap_word.specs.Runs.{Stops}
use Rattle.cap_word.specs.declared.traps.TrapKind.{TrapKind}
use Rattle.flat_code.specs.declared.operations.Op.{Op}
use Rattle.flat_code.specs.Frames.{FlatThread}
use Rattle.machine_world.specs.Local.{Local, Trapped}
use Rattle.machine_world.specs.Places.{Checked}
use Rattle.segment_laws.specs.Ways.{ComesTo}

-- operations that stay in their frame and ask nothing
abbrev pub IsStraight : Op → Type 0
IsStraight (Op.Call site d f args) = ⊥
IsStraight (Op.CallTable site d t i s) = ⊥
IsStraight (Op.Model site d n args) = ⊥
IsStraight (Op.Spawn site d f s) = ⊥
IsStraight (Op.Return s) = ⊥
IsStraight _ = Unit {0}

-- the machine reaches the same trap
pub record TrapsAlike (c : Checked) (code : List ℕ) (l : Local) (t : FlatThread) (finish : Finish) : Type 0 where
  pub steps : ℕ
  pub comes : ComesTo c code steps l (Stops (Trapped TrapKind.Index))
  pub same : finish ≡ record { trap = Some TrapKind.Index; globals = t.globals }
