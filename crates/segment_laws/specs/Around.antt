-- Before and after a segment: a thread past its ECALL, and a new thread.
use Rattle.std.specs.Prelude.{◌≡◌, ◌≢◌, ℕ, List, [], ◌∷◌, Ok}
use Rattle.chunk_pool.specs.Pool.{Pool, Taken}
use Rattle.rv_code.specs.declared.instructions.Instr.{Instr}
use Rattle.rv_machine.specs.Registers.{read}
use Rattle.rv_machine.specs.Step.{instruction_at}
use Rattle.flat_code.specs.Frames.{FlatWaiting}
use Rattle.flat_code.specs.Step.{flat_resume, started}
use Rattle.flat_code.specs.declared.operations.Op.{Op}
use Rattle.stack_certificate.specs.Certificates.{fact_at}
use Rattle.machine_world.specs.Areas.{Areas}
use Rattle.machine_world.specs.InPlace.{Frame}
use Rattle.stack_certificate.specs.Registers.{a0}
use Rattle.machine_world.specs.Local.{Core, Local, with_header}
use Rattle.machine_world.specs.Places.{Checked, Place}
use Rattle.machine_world.specs.Rests.{IsResting, AtStart, AtCall, PastCall, IsPastCall}
use Rattle.machine_world.specs.StandsFor.{StandsForFlatThread}
use Rattle.machine_world.specs.StandsForWorld.{IsPast}
use Rattle.machine_world.specs.Threads.{start_core}
use Rattle.segment_laws.specs.Ways.{HasForm}
use Rattle.segment_laws.specs.Alike.{MayRun, running_on}

-- ---- after an ECALL

-- a thread that has passed the ECALL of an operation rests just after it, where there is no other ECALL
pub record IsPassed (c : Checked) (code : List ℕ) (pool : Pool) (core : Core) (f i : ℕ) (op : Op) (word : ℕ) : Type 0 where
  pub place : Place
  pub frames : List Frame
  pub past : IsPastCall c pool core f i op word place frames
  pub no_ecall : instruction_at code core.pc ≢ Ok Instr.Ecall

-- it rests there for the flat thread that waited, which continues with a0 as the call's result
pub record RestsBehind (c : Checked) (l : Local) (waiting : FlatWaiting) (globals : List (List ℕ)) : Type 0 where
  pub form : HasForm c l
  pub stands : StandsForFlatThread c l (waiting.frame ∷ waiting.below) globals
  pub past : IsPast c l.areas.pool l.core stands.rests
  pub may : MayRun c l.areas.pool l.core stands.rests
  pub runs : running_on c l.areas.pool l.core stands.rests (record { frame = waiting.frame; below = waiting.below; globals = globals }) ≡ flat_resume c.flat waiting (record { result = read l.core.x a0; globals = globals })

-- ---- a new thread

-- a thread on a chunk that was taken, at the entry of a function
abbrev pub new_thread : Checked → Areas → Taken → ℕ → ℕ → Local
new_thread c areas taken f argument =
    record { areas = record areas { pool = with_header taken.pool taken.chunk 0 0 }; core = start_core taken (fact_at c.certificate f).entry argument }

-- at a function's first word
abbrev pub IsAtStart : (c : Checked) (pool : Pool) (core : Core) → IsResting c pool core → Type 0
IsAtStart c pool core (AtStart f frames in_place) = Unit {0}
IsAtStart c pool core (AtCall f i op word frames in_place) = ⊥
IsAtStart c pool core (PastCall f i op word place frames in_place) = ⊥

-- it rests at the function's first word for a flat thread that starts there with these arguments
pub record RestsAtStart (c : Checked) (l : Local) (f : ℕ) (arguments : List ℕ) (globals : List (List ℕ)) : Type 0 where
  pub form : HasForm c l
  pub stands : StandsForFlatThread c l ((started c.flat f arguments globals).frame ∷ []) globals
  pub start : IsAtStart c l.areas.pool l.core stands.rests
  pub may : MayRun c l.areas.pool l.core stands.rests
  pub runs : running_on c l.areas.pool l.core stands.rests (started c.flat f arguments globals) ≡ started c.flat f arguments globals
