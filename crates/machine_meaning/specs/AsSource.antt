-- A machine thread that runs as a thread of the source does, until it asks or stops: both reach the same result, with
-- the same values, or the machine finds no free chunk first; and a source thread that runs silently forever does so on
-- the machine.
use Rattle.std.specs.Prelude.{◌≡◌, ℕ, ◌≤◌, ◌⊎◌, List, Option, Some, None}
use Rattle.cap_word.specs.Calls.{Call, Question, Finish, call_of, spawn_of}
use Rattle.cap_word.specs.Runs.{Goes, Asks, Stops, moves}
use Rattle.c_tree.specs.Trees.{ProgramTree}
use Rattle.c_mean.specs.Frames.{Running, Waiting}
use Rattle.c_mean.specs.Steps.{SourceMove, source_machine}
use Rattle.chunk_pool.specs.Pool.{Pool}
use Rattle.flat_code.specs.declared.operations.Op.{Op}
use Rattle.flat_code.specs.Codes.{result_place}
use Rattle.machine_world.specs.Globals.{AreGlobals}
use Rattle.machine_world.specs.InPlace.{Frame}
use Rattle.machine_world.specs.Local as local
use Rattle.stack_certificate.specs.Registers.{a0}
use Rattle.machine_world.specs.Local.{Core, Local, LocalMove, NoRoom, local_step}
use Rattle.machine_world.specs.Places.{Checked}
use Rattle.machine_world.specs.Rests.{IsResting, PastCall, IsAtCall}
use Rattle.machine_world.specs.StandsFor.{StandAtCall}
use Rattle.rv_machine.specs.Registers.{read}
use Rattle.segment_laws.specs.Ways.{HasForm, IsGoodState}
use Rattle.segment_laws.specs.Alike.{Comes, FindsNone, StopsAlike, FindsNoChunk, IsCutMove}
use Rattle.machine_meaning.specs.Firsts.{first_of}
use Rattle.stack_certificate.specs.Certificates.{fact_at, need_of}
use Rattle.stack_certificate.specs.Templates.{kind_of}

-- ---- continuing

-- a0 holds a call's result, if the call gives one
abbrev pub HoldsWanted : Option ℕ → Core → ℕ → Type 0
HoldsWanted None core result = Unit {0}
HoldsWanted (Some d) core result = result ≡ read core.x a0

-- the thread that rests continues with this word as the result of its call: a0 holds it, if the call gives one
abbrev pub HoldsResult : (c : Checked) (pool : Pool) (core : Core) → IsResting c pool core → ℕ → Type 0
HoldsResult c pool core (PastCall f i op word place frames in_place) result = HoldsWanted (result_place op) core result
HoldsResult c pool core _ result = Unit {0}

-- ---- at a call

-- the question of a thread at the ECALL of an operation is the source thread's call: the same modelled call, by the
-- number that the operation names, or a thread at the entry of the started function, with the same argument, on a chunk
-- for the site's need
abbrev pub AsksCall : Checked → Op → local.Question → Call → Type 0
AsksCall c (Op.Model site d n args) question call = (words : List ℕ) × (call_of n words ≡ Some call) × (question ≡ local.Calls call)
AsksCall c (Op.Spawn site d g x) question call =
    (argument : ℕ) × (call ≡ spawn_of g argument)
    × (question ≡ local.Starts (fact_at c.certificate g).entry argument (need_of (kind_of c.certificate (Op.Spawn site d g x))))
AsksCall c _ question call = ⊥

-- a thread at the ECALL of an operation stands for a source thread that waits at its call, with the same globals, and
-- asks the same
pub record WaitsAsSource (c : Checked) (program : ProgramTree) (at : Local) (question : local.Question) (asked : Question) (waiting : Waiting) : Type 0 where
  pub function : ℕ
  pub operation : ℕ
  pub op : Op
  pub word : ℕ
  pub frames : List Frame
  pub rests : IsAtCall c at.areas.pool at.core function operation op word frames
  pub stands : StandAtCall c program at.areas.pool op frames waiting
  pub globals_are : AreGlobals c.flat asked.globals at.areas.globals
  pub same : AsksCall c op question asked.call

-- ---- from the machine to the source

-- the source thread reaches what a step of the machine leads to; the step finds no chunk only at a linked site whose
-- need no free chunk fits, and is never wrong
abbrev pub IsStepAsSource : Checked → ProgramTree → Running → Local → LocalMove → Type 0
IsStepAsSource c program running at (Goes next) = Unit {0}
IsStepAsSource c program running at (Asks question still) =
    (still ≡ at) × ((n : ℕ) × (asked : Question) × (waiting : Waiting) × (moves (source_machine program) n running ≡ Asks asked waiting) × WaitsAsSource c program at question asked waiting)
IsStepAsSource c program running at (Stops NoRoom) = FindsNoChunk c at
IsStepAsSource c program running at (Stops end) = (n : ℕ) × (finish : Finish) × (moves (source_machine program) n running ≡ Stops finish) × StopsAlike c at end finish

-- a state on the way: it is in place, its next load or store is good, and so is its next step
pub record IsAlongSource (c : Checked) (code : List ℕ) (program : ProgramTree) (running : Running) (at : Local) : Type 0 where
  pub form : HasForm c at
  pub good : IsGoodState c code at
  pub step : IsStepAsSource c program running at (local_step code at)
  -- if it finds no chunk, the thread started with the source thread's function
  pub cut : IsCutMove c (first_of running) at (local_step code at)

-- ---- from the source to the machine

-- the machine reaches what n steps of the source thread lead to; n silent steps take at least as many of its own
abbrev pub ReachesSource : Checked → List ℕ → ProgramTree → Local → ℕ → SourceMove → Type 0
ReachesSource c code program l n (Goes next) = (k : ℕ) × (at : Local) × (n ≤ k) × Comes code k l at
ReachesSource c code program l n (Asks asked waiting) =
    (k : ℕ) × (at : Local) × (question : local.Question) × Comes code k l at × (local_step code at ≡ Asks question at) × WaitsAsSource c program at question asked waiting
ReachesSource c code program l n (Stops finish) =
    (k : ℕ) × (at : Local) × (end : local.End) × Comes code k l at × (local_step code at ≡ Stops end) × StopsAlike c at end finish

-- ---- both

pub record RunsAsSource (c : Checked) (code : List ℕ) (program : ProgramTree) (l : Local) (running : Running) : Type 0 where
  pub along : (k : ℕ) (at : Local) → Comes code k l at → IsAlongSource c code program running at
  pub reaches : (n : ℕ) → FindsNone code l ⊎ ReachesSource c code program l n (moves (source_machine program) n running)
