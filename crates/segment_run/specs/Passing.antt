-- A thread at the ECALL of a call, and after it once it has retired.
use Rattle.std.specs.Prelude.{◌≢◌, ℕ, List, Ok}
use Rattle.c_mean.specs.Frames.{Waiting}
use Rattle.chunk_pool.specs.Pool.{Pool}
use Rattle.c_tree.specs.Trees.{ProgramTree}
use Rattle.rv_code.specs.declared.instructions.Instr.{Instr}
use Rattle.rv_machine.specs.Step.{instruction_at}
use Rattle.machine_world.specs.Local.{Core, Local}
use Rattle.machine_world.specs.Places.{Checked}
use Rattle.machine_world.specs.Rests.{IsResting, AtStart, AtCall, PastCall}
use Rattle.machine_world.specs.StandsFor.{Waits, StandsForThread}
use Rattle.machine_world.specs.StandsForWorld.{IsPast}

-- at the ECALL, which hasn't retired
abbrev pub IsBefore : (c : Checked) (pool : Pool) (core : Core) → IsResting c pool core → Type 0
IsBefore c pool core (AtStart f frames in_place) = ⊥
IsBefore c pool core (AtCall f i op word frames in_place) = Unit {0}
IsBefore c pool core (PastCall f i op word place frames in_place) = ⊥

-- at or just after an ECALL
abbrev pub IsAround : (c : Checked) (pool : Pool) (core : Core) → IsResting c pool core → Type 0
IsAround c pool core (AtStart f frames in_place) = ⊥
IsAround c pool core (AtCall f i op word frames in_place) = Unit {0}
IsAround c pool core (PastCall f i op word place frames in_place) = Unit {0}

pub record RestsAround (c : Checked) (pool : Pool) (core : Core) : Type 0 where
  pub rests : IsResting c pool core
  pub around : IsAround c pool core rests

-- before the ECALL, and after it, where there is no other one
pub record RestsBefore (c : Checked) (l : Local) : Type 0 where
  pub rests : IsResting c l.areas.pool l.core
  pub before : IsBefore c l.areas.pool l.core rests

pub record RestsBehind (c : Checked) (code : List ℕ) (l : Local) : Type 0 where
  pub rests : IsResting c l.areas.pool l.core
  pub behind : IsPast c l.areas.pool l.core rests
  pub no_ecall : instruction_at code l.core.pc ≢ Ok Instr.Ecall

-- the same, for a source thread that waits at the call
pub record WaitsBefore (c : Checked) (program : ProgramTree) (l : Local) (waiting : Waiting) (globals : List (List ℕ)) : Type 0 where
  pub stands : StandsForThread c program l (Waits waiting) globals
  pub before : IsBefore c l.areas.pool l.core stands.rests

pub record WaitsBehind (c : Checked) (program : ProgramTree) (l : Local) (waiting : Waiting) (globals : List (List ℕ)) : Type 0 where
  pub stands : StandsForThread c program l (Waits waiting) globals
  pub behind : IsPast c l.areas.pool l.core stands.rests
