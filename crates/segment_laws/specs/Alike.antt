-- A machine thread that runs as a thread of flat code does, until it asks or stops: both reach the same result, or the
-- machine finds no free chunk first.
use Rattle.std.specs.Prelude.{◌≡◌, ◌≢◌, ℕ, ◌+◌, ◌<◌, ◌≤◌, ◌⊎◌, List, [], ◌∷◌, length, Some, None}
use Rattle.cap_word.specs.Calls.{Call, Question, Finish, spawn_of}
use Rattle.cap_word.specs.Runs.{Goes, Asks, Stops, moves}
use Rattle.rv_machine.specs.Registers.{read}
use Rattle.flat_code.specs.Codes.{FlatCode, function_at, operation_at}
use Rattle.flat_code.specs.Frames.{FlatFrame, FlatThread, FlatWaiting, Finished, Lost}
use Rattle.flat_code.specs.Step.{FlatMove, flat_machine, flat_resume}
use Rattle.flat_code.specs.declared.operations.Op.{Op}
use Rattle.stack_certificate.specs.Certificates.{fact_at, need_of}
use Rattle.stack_certificate.specs.Templates.{kind_of}
use Rattle.chunk_pool.specs.Pool.{Pool, taken_for}
use Rattle.machine_world.specs.Globals.{AreGlobals}
use Rattle.machine_world.specs.InPlace.{Frame, HasFrames}
use Rattle.machine_world.specs.Local as local
use Rattle.stack_certificate.specs.Registers.{t1, a0}
use Rattle.machine_world.specs.Local.{Core, Local, LocalMove, Ended, Trapped, NoRoom, Wrong, local_step, local_machine}
use Rattle.machine_world.specs.Places.{Checked, InOperation, Whole, before_transfer, row_of}
use Rattle.machine_world.specs.Rests.{IsResting, AtStart, AtCall, PastCall, ecall_word, IsAtCall, AreFlatFrames}
use Rattle.segment_laws.specs.Simulation.{Simulates}
use Rattle.segment_laws.specs.Ways.{HasForm, IsGoodState}
use Rattle.stack_certificate.specs.declared.sites.LinkKind.{LinkKind}

-- ---- what follows from the lowering of a source, but not from the rules of a certificate

-- each modelled call and each start of a thread is followed by an operation of its function
abbrev pub FollowsAsks : FlatCode → Type 0
FollowsAsks code = (f i word : ℕ) (op : Op) → f < length code.functions → operation_at code f i ≡ Some op → ecall_word op ≡ Some word → i + 1 < length (function_at code f).ops

-- the thread never reads a variable that isn't set, is never without an operation, and never makes an undefined call
abbrev pub IsNeverLost : FlatCode → FlatThread → Type 0
IsNeverLost code t = (n : ℕ) → moves (flat_machine code) n t ≢ Stops Lost

-- ---- where a thread continues

-- a thread that rests at no ECALL may run
abbrev pub MayRun : (c : Checked) (pool : Pool) (core : Core) → IsResting c pool core → Type 0
MayRun c pool core (AtStart f frames in_place) = Unit {0}
MayRun c pool core (AtCall f i op word frames in_place) = ⊥
MayRun c pool core (PastCall f i op word place frames in_place) = Unit {0}

-- the flat thread for which it rests, as it continues: from its function's start, or with a0 as the result of its call
abbrev pub running_on : (c : Checked) (pool : Pool) (core : Core) → IsResting c pool core → FlatThread → FlatThread
running_on c pool core (PastCall f i op word place frames in_place) t =
    flat_resume c.flat (record { frame = t.frame; below = t.below }) (record { result = read core.x a0; globals = t.globals })
running_on c pool core _ t = t

-- ---- what both reach

-- the question of a thread at the ECALL of an operation is that of the flat thread: the same modelled call, or a thread
-- at the entry of the started function, with the same argument, on a chunk for the site's need
abbrev pub AsksTheSame : Checked → Op → local.Question → Call → Type 0
AsksTheSame c (Op.Model site d n args) question call = question ≡ local.Calls call
AsksTheSame c (Op.Spawn site d g x) question call =
    (argument : ℕ) × (call ≡ spawn_of g argument)
    × (question ≡ local.Starts (fact_at c.certificate g).entry argument (need_of (kind_of c.certificate (Op.Spawn site d g x))))
AsksTheSame c _ question call = ⊥

-- the thread rests at an ECALL for a flat thread that waits there, and asks the same, with the same globals
pub record WaitsAlike (c : Checked) (at : Local) (question : local.Question) (asked : Question) (waiting : FlatWaiting) : Type 0 where
  pub op : Op
  pub word : ℕ
  pub frames : List Frame
  pub form : HasForm c at
  pub rests : IsAtCall c at.areas.pool at.core waiting.frame.function waiting.frame.next op word frames
  pub stands : AreFlatFrames c at.areas.pool frames (waiting.frame ∷ waiting.below)
  pub globals_are : AreGlobals c.flat asked.globals at.areas.globals
  pub same : AsksTheSame c op question asked.call

-- the thread stops as the flat thread does, with the same globals
abbrev pub StopsAlike : Checked → Local → local.End → Finish → Type 0
StopsAlike c at (Ended areas) finish = (finish.trap ≡ None) × AreGlobals c.flat finish.globals areas.globals
StopsAlike c at (Trapped kind) finish = (finish.trap ≡ Some kind) × AreGlobals c.flat finish.globals at.areas.globals
StopsAlike c at NoRoom finish = ⊥
StopsAlike c at Wrong finish = ⊥

-- ---- from the machine to the flat thread

-- the thread is in place at an operation whose site may be linked, t1 has the site's need, and no free chunk fits it
pub record FindsNoChunk (c : Checked) (l : Local) : Type 0 where
  pub function : ℕ
  pub operation : ℕ
  pub word : ℕ
  pub op : Op
  pub need : ℕ
  pub frames : List Frame
  pub there : operation_at c.flat function operation ≡ Some op
  pub linked : kind_of c.certificate op ≡ LinkKind.Linked need
  pub in_place : HasFrames c l.areas.pool l.core (InOperation function operation word) frames
  pub need_is : read l.core.x t1 ≡ need
  pub nothing : taken_for l.areas.pool need ≡ None

-- the flat thread reaches what a step of the machine leads to; the step finds no chunk only at a linked site whose need
-- no free chunk fits, and is never wrong
abbrev pub IsStepAlike : Checked → FlatThread → Local → LocalMove → Type 0
IsStepAlike c t at (Goes next) = Unit {0}
IsStepAlike c t at (Asks question still) =
    (still ≡ at) × ((n : ℕ) × (asked : Question) × (waiting : FlatWaiting) × (moves (flat_machine c.flat) n t ≡ Asks asked waiting) × WaitsAlike c at question asked waiting)
IsStepAlike c t at (Stops NoRoom) = FindsNoChunk c at
IsStepAlike c t at (Stops end) = (n : ℕ) × (finish : Finish) × (moves (flat_machine c.flat) n t ≡ Stops (Finished finish)) × StopsAlike c at end finish

-- the function of the last of some frames, the first of which is of this function: the thread started with it
abbrev pub last_function : ℕ → List Frame → ℕ
last_function f [] = f
last_function f (frame ∷ frames) = last_function frame.function frames

abbrev pub last_flat : ℕ → List FlatFrame → ℕ
last_flat f [] = f
last_flat f (flat ∷ flats) = last_flat flat.function flats

abbrev pub first_of : FlatThread → ℕ
first_of t = last_flat t.frame.function t.below

-- the thread is at a call whose site may be linked, with its frame in the front chunk, and no free chunk fits the
-- site's need; it started with this function
pub record IsCutOff (c : Checked) (started : ℕ) (l : Local) : Type 0 where
  pub function : ℕ
  pub operation : ℕ
  pub word : ℕ
  pub before : ℕ
  pub op : Op
  pub need : ℕ
  pub frame : Frame
  pub below : List Frame
  pub inside : function < length c.flat.functions
  pub there : operation_at c.flat function operation ≡ Some op
  pub calls : before_transfer op ≡ Some before
  pub linked : kind_of c.certificate op ≡ LinkKind.Linked need
  pub in_place : HasFrames c l.areas.pool l.core (InOperation function operation word) (frame ∷ below)
  pub row : row_of c (InOperation function operation word) ≡ Whole
  pub started_is : last_function frame.function below ≡ started
  pub nothing : taken_for l.areas.pool need ≡ None

-- if a step of a thread that started with this function finds no chunk, the thread is cut off in this way
abbrev pub IsCutMove : Checked → ℕ → Local → LocalMove → Type 0
IsCutMove c started l (Goes next) = Unit {0}
IsCutMove c started l (Asks question still) = Unit {0}
IsCutMove c started l (Stops NoRoom) = IsCutOff c started l
IsCutMove c started l (Stops end) = Unit {0}

-- a state on the way: it is in place, its next load or store is good, and so is its next step
pub record IsAlong (c : Checked) (code : List ℕ) (t : FlatThread) (at : Local) : Type 0 where
  pub form : HasForm c at
  pub good : IsGoodState c code at
  pub step : IsStepAlike c t at (local_step code at)
  pub cut : IsCutMove c (first_of t) at (local_step code at)

-- ---- from the flat thread to the machine

-- this number of silent steps leads the machine from one state to another
abbrev pub Comes : List ℕ → ℕ → Local → Local → Type 0
Comes code k l at = moves (local_machine code) k l ≡ Goes at

-- it reaches a LINK for which no free chunk fits
abbrev pub FindsNone : List ℕ → Local → Type 0
FindsNone code l = (k : ℕ) × (at : Local) × Comes code k l at × (local_step code at ≡ Stops NoRoom)

-- the machine reaches what n steps of the flat thread lead to; n silent steps take at least as many of its own
abbrev pub ReachesAlike : Checked → List ℕ → Local → ℕ → FlatMove → Type 0
ReachesAlike c code l n (Goes next) = (k : ℕ) × (at : Local) × (n ≤ k) × Comes code k l at × Simulates c at next
ReachesAlike c code l n (Asks asked waiting) =
    (k : ℕ) × (at : Local) × (question : local.Question) × Comes code k l at × (local_step code at ≡ Asks question at) × WaitsAlike c at question asked waiting
ReachesAlike c code l n (Stops (Finished finish)) =
    (k : ℕ) × (at : Local) × (end : local.End) × Comes code k l at × (local_step code at ≡ Stops end) × StopsAlike c at end finish
ReachesAlike c code l n (Stops Lost) = ⊥

-- ---- both

pub record RunsAlike (c : Checked) (code : List ℕ) (l : Local) (t : FlatThread) : Type 0 where
  pub along : (k : ℕ) (at : Local) → Comes code k l at → IsAlong c code t at
  pub reaches : (n : ℕ) → FindsNone code l ⊎ ReachesAlike c code l n (moves (flat_machine c.flat) n t)
