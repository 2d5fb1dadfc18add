-- What never happens to a thread of an accepted program, and where it asks.
use Rattle.std.specs.Prelude.{◌≡◌, ℕ, ◌<◌, List, length, Option}
use Rattle.cap_word.specs.Runs.{Goes, Asks, Stops, moves}
use Rattle.flat_code.specs.declared.operations.Op.{Op}
use Rattle.stack_certificate.specs.Certificates.{fact_at, need_of}
use Rattle.stack_certificate.specs.Templates.{kind_of}
use Rattle.machine_world.specs.InPlace.{Frame}
use Rattle.machine_world.specs.Local.{Local, LocalMove, Question, Calls, Starts, Ended, Trapped, NoRoom, Wrong, local_step, local_machine}
use Rattle.machine_world.specs.Places.{Checked}
use Rattle.machine_world.specs.Rests.{IsAtCall}
use Rattle.segment_laws.specs.Ways.{IsGoodState}
use Rattle.segment_laws.specs.Alike.{FindsNoChunk}

-- the thread rests at the ECALL of an operation
pub record RestsAtCall (c : Checked) (l : Local) (op : Op) : Type 0 where
  pub function : ℕ
  pub operation : ℕ
  pub word : ℕ
  pub frames : List Frame
  pub at : IsAtCall c l.areas.pool l.core function operation op word frames

-- it asks at an operation that asks: a modelled call, or a spawn of a function with its entry and need
abbrev pub AsksAt : Checked → Local → Question → Type 0
AsksAt c l (Calls call) = (site n : ℕ) × (d : Option ℕ) × (args : List ℕ) × RestsAtCall c l (Op.Model site d n args)
AsksAt c l (Starts entry argument need) =
    (site f x : ℕ) × (d : Option ℕ) × (f < length c.flat.functions) × RestsAtCall c l (Op.Spawn site d f x)
    × (entry ≡ (fact_at c.certificate f).entry) × (need ≡ need_of (kind_of c.certificate (Op.Spawn site d f x)))

-- its step isn't wrong, asks as above, and finds no chunk only at a linked site whose need no free chunk fits
abbrev pub IsSafeMove : Checked → Local → LocalMove → Type 0
IsSafeMove c l (Goes after) = Unit {0}
IsSafeMove c l (Asks question waiting) = AsksAt c l question
IsSafeMove c l (Stops (Ended areas)) = Unit {0}
IsSafeMove c l (Stops (Trapped kind)) = Unit {0}
IsSafeMove c l (Stops NoRoom) = FindsNoChunk c l
IsSafeMove c l (Stops Wrong) = ⊥

pub record IsSafe (c : Checked) (code : List ℕ) (l : Local) : Type 0 where
  pub good : IsGoodState c code l
  pub move : IsSafeMove c l (local_step code l)

-- this holds wherever silent steps lead
pub record StaysSafe (c : Checked) (code : List ℕ) (l : Local) : Type 0 where
  pub safe : (n : ℕ) (after : Local) → moves (local_machine code) n l ≡ Goes after → IsSafe c code after
