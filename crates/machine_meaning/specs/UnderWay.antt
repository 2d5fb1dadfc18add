-- A machine world with a segment in progress, and the source's segment that corresponds to it: the running thread
-- rested some silent steps ago, and from there runs as the source's running thread; everything else stands for that of
-- the source.
use Rattle.std.specs.Prelude.{◌≡◌, ◌≢◌, ℕ, ◌<◌, List, length, Option, Some, None, slice_get}
use Rattle.cap_word.specs.Calls.{Blocking, call_of}
use Rattle.cap_word.specs.declared.calls.Block.{Block}
use Rattle.c_tree.specs.Trees.{ProgramTree}
use Rattle.c_mean.specs.World.{Segment}
use Rattle.chunk_pool.specs.Pool.{Pool}
use Rattle.flat_code.specs.declared.operations.Op.{Op}
use Rattle.machine_world.specs.Local.{Local}
use Rattle.machine_world.specs.Places.{Checked}
use Rattle.machine_world.specs.Rests.{IsResting, AtStart, PastCall}
use Rattle.machine_world.specs.StandsForWorld.{StandsForRest, StandsForWorld}
use Rattle.machine_world.specs.Threads.{Blocked, Thread, World, Setting, thread_of}
use Rattle.c_mean.specs.World as source
use Rattle.machine_meaning.specs.AsSource.{RunsAsSource}
use Rattle.segment_laws.specs.Alike.{Comes}

-- ---- between segments

-- the operation is this blocking call
abbrev pub IsBlockingCall : Op → Block → Type 0
IsBlockingCall (Op.Model site d n args) block = (words : List ℕ) × (call_of n words ≡ Some (Blocking block))
IsBlockingCall _ block = ⊥

-- a thread rests as it does between segments: at the start of its only frame and not blocked, or just past the ECALL of
-- the call at which it is blocked
abbrev pub RestsSo : (c : Checked) (pool : Pool) (thread : Thread) → IsResting c pool thread.core → Option Blocked → Type 0
RestsSo c pool thread (AtStart f frames in_place) None = length frames ≡ 1
RestsSo c pool thread (PastCall f i op word place frames in_place) (Some blocked) = IsBlockingCall op blocked.block
RestsSo c pool thread _ _ = ⊥

abbrev pub IsSettledThread : Checked → Pool → Thread → Type 0
IsSettledThread c pool thread = (rests : IsResting c pool thread.core) × RestsSo c pool thread rests thread.blocked

abbrev pub IsSettledIf : Checked → Pool → Option Thread → Type 0
IsSettledIf c pool None = Unit {0}
IsSettledIf c pool (Some thread) = IsSettledThread c pool thread

-- each live thread rests in this way, and no segment is in progress
pub record IsSettled (c : Checked) (w : World) : Type 0 where
  pub between : w.running ≡ None
  pub threads : (number : ℕ) → IsSettledIf c w.areas.pool (thread_of w number)

-- such a world stands for a source world
pub record StandsSettled (c : Checked) (program : ProgramTree) (w : World) (other : source.World) : Type 0 where
  pub stands : StandsForWorld c program w other
  pub settled : IsSettled c w

-- ---- within one

pub record IsUnderWay (c : Checked) (program : ProgramTree) (s : Setting) (w : World) (segment : Segment) : Type 0 where
  pub running : w.running ≡ Some segment.number
  pub thread : Thread
  pub live : thread_of w segment.number ≡ Some thread
  pub there : segment.number < length segment.world.threads
  -- where it rested, and the number of silent steps since then
  pub from : Local
  pub steps : ℕ
  pub comes : Comes s.code steps from (record { areas = w.areas; core = thread.core })
  pub runs : RunsAsSource c s.code program from segment.running
  -- the other threads, the queues and the uses
  pub others : (number : ℕ) → number ≢ segment.number → StandsForRest c program w.areas.pool (thread_of w number) (slice_get segment.world.threads number)
  pub settled : (number : ℕ) → number ≢ segment.number → IsSettledIf c w.areas.pool (thread_of w number)
  pub exchange : w.exchange ≡ segment.world.exchange
  pub next : w.next ≡ length segment.world.threads
