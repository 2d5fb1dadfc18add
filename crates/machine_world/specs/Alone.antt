-- What a step leaves unchanged: in a step of one thread, the chunks that are neither held by it, nor free, nor
-- accessed; in a step of the world, the other threads.
use Rattle.std.specs.Prelude.{◌≡◌, ◌≢◌, ℕ, List, Some, IfSome}
use Rattle.cap_word.specs.Runs as runs
use Rattle.chunk_pool.specs.Pool.{chunk_of}
use Rattle.rv_machine.specs.Access.{IsAccessed}
use Rattle.machine_world.specs.Areas.{InPayload, spot_of}
use Rattle.machine_world.specs.Held.{copies_in}
use Rattle.machine_world.specs.Local.{Local, LocalMove, Ended, Trapped, NoRoom, Wrong, access_at}
use Rattle.machine_world.specs.Runs.{world_of}
use Rattle.machine_world.specs.Threads.{World, Move, thread_of}

-- the chunk is neither in the thread's chain nor free, and no byte of the next access lies in it
pub record IsApart (code : List ℕ) (l : Local) (chunk : ℕ) : Type 0 where
  pub elsewhere : copies_in chunk l ≡ 0
  pub unaccessed : (at offset : ℕ) → IsAccessed (access_at code l) at → spot_of l.areas at ≢ Some (InPayload chunk offset)

-- the chunk has the same words after the move
abbrev pub KeepsChunk : ℕ → Local → LocalMove → Type 0
KeepsChunk chunk l (runs.Goes after) = chunk_of after.areas.pool chunk ≡ chunk_of l.areas.pool chunk
KeepsChunk chunk l (runs.Asks question waiting) = waiting ≡ l
KeepsChunk chunk l (runs.Stops (Ended areas)) = chunk_of areas.pool chunk ≡ chunk_of l.areas.pool chunk
KeepsChunk chunk l (runs.Stops (Trapped kind)) = Unit {0}
KeepsChunk chunk l (runs.Stops NoRoom) = Unit {0}
KeepsChunk chunk l (runs.Stops Wrong) = Unit {0}

-- the thread of that number is the same after the move
abbrev pub KeepsThread : ℕ → World → Move → Type 0
KeepsThread number w move = IfSome (world_of move) (λ after. thread_of after number ≡ thread_of w number)
