-- The source world for which a machine world stands, between segments: every live thread stands for its source thread
-- at its blocking call or its start, and globals, queues, uses, numbers and the calls at which threads are blocked are
-- equal.
use Rattle.std.specs.Prelude.{◌≡◌, ℕ, List, [], length, Option, Some, None, option_map, slice_get}
use Rattle.cap_word.specs.declared.calls.Block.{Block}
use Rattle.c_tree.specs.Trees.{ProgramTree}
use Rattle.c_mean.specs.Frames.{Waiting, pushed}
use Rattle.c_mean.specs.World as source
use Rattle.chunk_pool.specs.Pool.{Pool}
use Rattle.machine_world.specs.Globals.{AreGlobals}
use Rattle.machine_world.specs.Local.{Core}
use Rattle.machine_world.specs.Places.{Checked}
use Rattle.machine_world.specs.Rests.{IsResting, AtStart, AtCall, PastCall}
use Rattle.machine_world.specs.StandsFor.{Starts, Waits, StandsFor}
use Rattle.machine_world.specs.Threads.{Thread, World, thread_of}

-- a thread that hasn't run yet, at the start of a function with these arguments
pub record IsFresh (c : Checked) (program : ProgramTree) (pool : Pool) (thread : Thread) (function : ℕ) (arguments : List ℕ) : Type 0 where
  pub unblocked : thread.blocked ≡ None
  pub rests : IsResting c pool thread.core
  pub stands : StandsFor c program pool thread.core rests (Starts (pushed program function arguments) [])

-- the ECALL has retired
abbrev pub IsPast : (c : Checked) (pool : Pool) (core : Core) → IsResting c pool core → Type 0
IsPast c pool core (AtStart f frames in_place) = ⊥
IsPast c pool core (AtCall f i op word frames in_place) = ⊥
IsPast c pool core (PastCall f i op word place frames in_place) = Unit {0}

-- a thread that is blocked at a call
pub record IsBlockedAt (c : Checked) (program : ProgramTree) (pool : Pool) (thread : Thread) (block : Block) (waiting : Waiting) : Type 0 where
  pub blocked : option_map (λ b. b.block) thread.blocked ≡ Some block
  pub rests : IsResting c pool thread.core
  pub past : IsPast c pool thread.core rests
  pub stands : StandsFor c program pool thread.core rests (Waits waiting)

-- the live thread of a number, if there is one, and the state at rest of the source thread of that number, if it has
-- started
abbrev pub StandsForRest : Checked → ProgramTree → Pool → Option Thread → Option source.Rest → Type 0
StandsForRest c program pool None None = Unit {0}
StandsForRest c program pool None (Some source.Ended) = Unit {0}
StandsForRest c program pool (Some thread) (Some (source.Fresh function arguments)) = IsFresh c program pool thread function arguments
StandsForRest c program pool (Some thread) (Some (source.Blocked block waiting)) = IsBlockedAt c program pool thread block waiting
StandsForRest c program pool _ _ = ⊥

pub record StandsForWorld (c : Checked) (program : ProgramTree) (w : World) (other : source.World) : Type 0 where
  pub between : w.running ≡ None
  pub threads : (number : ℕ) → StandsForRest c program w.areas.pool (thread_of w number) (slice_get other.threads number)
  pub globals_are : AreGlobals c.flat other.globals w.areas.globals
  pub exchange : w.exchange ≡ other.exchange
  pub next : w.next ≡ length other.threads
