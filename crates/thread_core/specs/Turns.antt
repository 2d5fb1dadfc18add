-- What `begin` and `proceed` do: steps of the machine world without a turn from the world of the segment on, then the
-- step that gives the turn.
use Rattle.std.specs.Prelude.{◌≡◌, ℕ, ◌-◌, List, Option, Some, None, IsSome, IsTrue}
use Rattle.cap_word.specs.declared.threads.ThreadId.{ThreadId}
use Rattle.flat_code.specs.declared.operations.Op.{Op}
use Rattle.chunk_pool.specs.Pool.{Pool}
use Rattle.machine_world.specs.InPlace.{Frame}
use Rattle.machine_world.specs.Local.{Core}
use Rattle.machine_world.specs.Keys.{key_of}
use Rattle.machine_world.specs.Places.{Checked, Place}
use Rattle.machine_world.specs.Rests.{IsPastCall}
use Rattle.machine_world.specs.Runs.{after_action, Pick}
use Rattle.machine_world.specs.Stretches.{IsGoodStretch}
use Rattle.machine_world.specs.Threads.{Thread, World, thread_of, Move, Puts, Spawns, Blocks, Ends, Stops, step}
use Rattle.segment_run.specs.Contexts.{checked_of}
use Rattle.thread_core.specs.declared.turns.Turn.{Turn}
use Rattle.thread_core.specs.Ready.{is_ready_in}
use Rattle.segment_laws.specs.Silent.{GoesOn}
use Rattle.thread_core.specs.Worlds.{Held, IsThread, segment_cost}

-- the key of a thread that is just after the ECALL at which it is blocked: it is there with some frames, and for any
-- such frames the key is theirs
pub record HasKeyOf (c : Checked) (pool : Pool) (core : Core) (key : List ℕ) : Type 0 where
  pub function : ℕ
  pub operation : ℕ
  pub word : ℕ
  pub op : Op
  pub place : Place
  pub frames : List Frame
  pub stands : IsPastCall c pool core function operation op word place frames
  pub is : (f i w : ℕ) (o : Op) (p : Place) (fs : List Frame) → IsPastCall c pool core f i o w p fs → key ≡ key_of c f i fs

abbrev pub HasKey : Checked → World → Option Thread → List ℕ → Type 0
HasKey c w None key = ⊥
HasKey c w (Some thread) key = HasKeyOf c w.areas.pool thread.core key

-- the step of a world from which a turn of a thread follows. The cost is that of the segment. At a cut, and out of
-- memory at the start of a thread, nothing has changed and the run has stopped.
abbrev pub Tells : Move → Turn → ℕ → World → Held → Type 0
Tells (Puts value after) (Turn.Out told) number at new = (told ≡ value) × (new.machine ≡ after) × (new.stopped ≡ None)
Tells (Spawns started after) (Turn.Spawned thread) number at new = (thread.number ≡ started) × IsThread new thread × (new.machine ≡ after) × (new.stopped ≡ None)
Tells (Spawns started after) Turn.Memory number at new = (new.machine ≡ at) × (new.stopped ≡ Some Turn.Memory)
Tells (Blocks after) (Turn.Blocked key cost) number at new =
    HasKey (checked_of new.accepted) after (thread_of after number) key × (cost ≡ segment_cost new) × (new.machine ≡ after) × (new.stopped ≡ None)
Tells (Ends after) (Turn.Ended cost) number at new = (cost ≡ segment_cost new) × (new.machine ≡ after) × (new.stopped ≡ None)
Tells (Stops stop) (Turn.Cut told cost) number at new =
    (told ≡ stop) × (cost ≡ segment_cost new) × (new.machine ≡ at) × (new.stopped ≡ Some (Turn.Cut told cost))
Tells _ _ number at new = ⊥

-- the result for a world in which a segment of this thread is in progress
pub record IsTurn (old : Held) (number : ℕ) (from : World) (turn : Turn) (new : Held) : Type 0 where
  pub steps : ℕ
  pub at : World
  pub goes_on : GoesOn old.setting steps from at
  pub tells : Tells (step old.setting at) turn number at new
  -- all steps together are a good stretch
  pub good : IsGoodStretch (checked_of old.accepted) old.setting (new.machine.cost - from.cost) from

-- `proceed` on a world that hasn't stopped
pub record Proceeds (old : Held) (turn : Turn) (new : Held) : Type 0 where
  pub number : ℕ
  pub running : old.machine.running ≡ Some number
  pub made : IsTurn old number old.machine turn new
  pub begun : new.begun ≡ old.begun

-- `begin` on a world that hasn't stopped: resuming has its effect, and then the same
pub record Begins (old : Held) (number : ℕ) (turn : Turn) (new : Held) : Type 0 where
  pub picked : World
  pub picks : after_action old.setting old.machine (Pick number) ≡ Some picked
  pub made : IsTurn old number picked turn new
  pub begun : new.begun ≡ old.machine.cost

-- what never changes
pub record KeepsSetting (old new : Held) : Type 0 where
  pub accepted : new.accepted ≡ old.accepted
  pub setting : new.setting ≡ old.setting
  pub chunks : new.machine.areas.pool.count ≡ old.machine.areas.pool.count

-- a stopped world returns the same turn again
abbrev pub AnswersAgain : Held → Option Turn → Turn → Held → Type 0
AnswersAgain old None turn new = Unit {0}
AnswersAgain old (Some before) turn new = (turn ≡ before) × (new ≡ old)

-- a thread may begin: it is ready, and no segment is in progress
abbrev pub MayBegin : Held → ThreadId → Option Turn → Type 0
MayBegin old thread None = IsTrue (is_ready_in old thread) × (old.machine.running ≡ None)
MayBegin old thread (Some turn) = Unit {0}

-- a segment is in progress
abbrev pub MayProceed : Held → Option Turn → Type 0
MayProceed old None = IsSome old.machine.running
MayProceed old (Some turn) = Unit {0}

-- after a value and a start the segment is still in progress, after a block and an end none is, and after a cut and out
-- of memory the run has stopped
abbrev pub LeavesRun : Turn → Held → Type 0
LeavesRun (Turn.Out value) new = (new.stopped ≡ None) × IsSome new.machine.running
LeavesRun (Turn.Spawned thread) new = (new.stopped ≡ None) × IsSome new.machine.running
LeavesRun (Turn.Blocked key cost) new = (new.stopped ≡ None) × (new.machine.running ≡ None)
LeavesRun (Turn.Ended cost) new = (new.stopped ≡ None) × (new.machine.running ≡ None)
LeavesRun (Turn.Cut stop cost) new = new.stopped ≡ Some (Turn.Cut stop cost)
LeavesRun Turn.Memory new = new.stopped ≡ Some Turn.Memory
