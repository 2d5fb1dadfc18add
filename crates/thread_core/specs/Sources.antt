-- What `begin` and `proceed` return, compared with the source's run of the thread: for every source world for which the
-- world stood before the segment, the values that were returned are those that the run has put, and the threads those
-- that it has started.
use Rattle.std.specs.Prelude.{◌≡◌, ℕ, ◌+◌, List, [], ◌∷◌, ◌++◌, length, Option, Some, None, slice_get}
use Rattle.cap_word.specs.declared.stops.Stop.{Stop}
use Rattle.cap_word.specs.declared.traps.TrapKind.{TrapKind}
use Rattle.c_mean.specs.Frames.{key_of}
use Rattle.c_mean.specs.World as source
use Rattle.c_mean.specs.World.{Rest}
use Rattle.accepted_pairs.specs.Accepting.{accepted_tree}
use Rattle.machine_world.specs.StandsForWorld.{StandsForWorld}
use Rattle.segment_run.specs.Contexts.{checked_of}
use Rattle.machine_meaning.specs.Reached.{IsReached, IsFinished}
use Rattle.thread_core.specs.Worlds.{Held}
use Rattle.thread_core.specs.declared.turns.Turn.{Turn}

-- these numbers are consecutive from the first number on, below the second
abbrev pub AreFrom : ℕ → List ℕ → ℕ → Type 0
AreFrom first [] end = end ≡ first
AreFrom first (number ∷ numbers) end = (number ≡ first) × AreFrom (first + 1) numbers end

-- a segment of that thread is in progress that began in this source world. It has put these values and started these
-- threads, and at some moment of its run the source thread has done exactly that.
pub record IsBeside (held : Held) (start : source.World) (number : ℕ) (puts started : List ℕ) : Type 0 where
  pub reached : IsReached (checked_of held.accepted) (accepted_tree held.accepted) held.setting start number puts held.machine
  pub starts : AreFrom (length start.threads) started (length reached.segment.world.threads)

-- the source's run of the thread has reached its blocking call, its end or its trap, and has put and started exactly
-- these
pub record IsDone (held : Held) (start : source.World) (number : ℕ) (puts started : List ℕ) (trap : Option TrapKind) (after : source.World) : Type 0 where
  pub finished : IsFinished (checked_of held.accepted) (accepted_tree held.accepted) held.setting start number puts trap after
  pub starts : AreFrom (length start.threads) started (length after.threads)

-- the key is that of the source thread, which is blocked
abbrev pub IsKeyOf : Option Rest → List ℕ → Type 0
IsKeyOf (Some (source.Blocked block waiting)) key = key ≡ key_of waiting
IsKeyOf _ key = ⊥

-- the thread has ended
abbrev pub HasEnded : Option Rest → Type 0
HasEnded (Some source.Ended) = Unit {0}
HasEnded _ = ⊥

-- what a turn says of a segment that had put and started these. A value or a thread is one more. After a block or an
-- end the run has reached it, and the world stands for the source world after it. At a trap the run has reached that
-- trap. At any other stop, and out of memory at the start of a thread, the run has put and started exactly these so
-- far.
abbrev pub TellsSource : Turn → source.World → ℕ → List ℕ → List ℕ → Held → Type 0
TellsSource (Turn.Out value) start number puts started new = IsBeside new start number (puts ++ value ∷ []) started
TellsSource (Turn.Spawned thread) start number puts started new = IsBeside new start number puts (started ++ thread.number ∷ [])
TellsSource (Turn.Blocked key cost) start number puts started new =
    (after : source.World) × IsDone new start number puts started None after × IsKeyOf (slice_get after.threads number) key
    × StandsForWorld (checked_of new.accepted) (accepted_tree new.accepted) new.machine after
TellsSource (Turn.Ended cost) start number puts started new =
    (after : source.World) × IsDone new start number puts started None after × HasEnded (slice_get after.threads number)
    × StandsForWorld (checked_of new.accepted) (accepted_tree new.accepted) new.machine after
TellsSource (Turn.Cut (Stop.Trap kind) cost) start number puts started new = (after : source.World) × IsDone new start number puts started (Some kind) after
TellsSource (Turn.Cut stop cost) start number puts started new = IsBeside new start number puts started
TellsSource Turn.Memory start number puts started new = IsBeside new start number puts started

-- `begin`: nothing was put or started before
abbrev pub BeginsAsSource : Held → ℕ → Turn → Held → Type 0
BeginsAsSource old number turn new =
    (start : source.World) → StandsForWorld (checked_of old.accepted) (accepted_tree old.accepted) old.machine start → TellsSource turn start number [] [] new

-- `proceed`: continues what was put and started
abbrev pub ProceedsAsSource : Held → Turn → Held → Type 0
ProceedsAsSource old turn new =
    (start : source.World) (number : ℕ) (puts started : List ℕ) → IsBeside old start number puts started → TellsSource turn start number puts started new
