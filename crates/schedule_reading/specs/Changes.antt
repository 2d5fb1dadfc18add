-- How the calls of the threads change their state.
use Rattle.std.specs.Prelude.{◌≡◌, ◌≢◌, ℕ, ◌+◌, ◌<◌, ◌≤◌, ◌||◌, IsTrue, is_some, List, [], ◌∷◌, length, map, option_to_list, Option, Some, None, IsSome}
use Rattle.slab.specs.Slab.{get}
use Rattle.cap_word.specs.declared.calls.Block.{Block}
use Rattle.cap_word.specs.declared.threads.ThreadId.{ThreadId}
use Rattle.c_tree.specs.Trees.{ProgramTree}
use Rattle.c_tree.specs.WellScoped.{signature_of}
use Rattle.cap_word.specs.Signatures.{signature_at}
use Rattle.c_mean.specs.Steps.{source_resume, started}
use Rattle.c_mean.specs.World.{empty_exchange}
use Rattle.source_runs.specs.Threads.{IsFull, IsThread, globals_of, running_of, waiting_of}
use Rattle.source_runs.specs.declared.frames.Thread.{Thread}
use Rattle.thread_exchange.specs.Exchanges.{Exchanging, row_of}
use Rattle.thread_waits.specs.Waiting.{wait_at}
use Rattle.thread_waits.specs.declared.waits.Wait.{Wait}
use Rattle.schedule_reading.specs.declared.threads.Rest.{Rest}
use Rattle.schedule_reading.specs.declared.threads.Rest.TheVariants as rest
use Rattle.schedule_reading.specs.declared.threads.Slot.{Slot}
use Rattle.schedule_reading.specs.Told.{ThreadsState, WaitsAs}

-- no thread yet
pub record AreNone (backlog : ℕ) (caps : List ℕ) (threads : ThreadsState) : Type 0 where
  pub slots : threads.slots.slots ≡ []
  pub waits : threads.waits ≡ record { places = None ∷ []; clock = 0 }
  pub exchange : threads.exchange ≡ record { caps = caps; backlog = backlog; exchange = empty_exchange }
  pub live : threads.live ≡ 0
  pub next : threads.next ≡ 0

-- no thread waits at a place without a thread
abbrev pub AreVacant : ThreadsState → Type 0
AreVacant threads = (place : ℕ) → get threads.slots place ≡ None → wait_at threads.waits place ≡ None

-- thread and wait at every other place stay the same
pub record KeepsOthers (old new : ThreadsState) (place : ℕ) : Type 0 where
  pub slots : (other : ℕ) → other ≢ place → get new.slots other ≡ get old.slots other
  pub waits : (other : ℕ) → other ≢ place → wait_at new.waits other ≡ wait_at old.waits other
  pub longer : length old.waits.places ≤ length new.waits.places

-- the waits at all places stay the same, and so do the queues and uses
pub record KeepsAll (old new : ThreadsState) : Type 0 where
  pub waits : (place : ℕ) → wait_at new.waits place ≡ wait_at old.waits place
  pub clock : new.waits.clock ≡ old.waits.clock
  pub exchange : new.exchange ≡ old.exchange
  pub live : new.live ≡ old.live
  pub next : new.next ≡ old.next

-- one more thread is at a vacant place, with the next number, and hasn't run
pub record HasAdded (old : ThreadsState) (function : ℕ) (argument : Option ℕ) (new : ThreadsState) (thread : ThreadId) : Type 0 where
  pub number : thread.number ≡ old.next
  pub vacant : get old.slots thread.slot ≡ None
  pub added : get new.slots thread.slot ≡ Some (record { number = old.next; rest = rest.Fresh function argument })
  pub waits : wait_at new.waits thread.slot ≡ Some Wait.Fresh
  pub place : thread.slot < length new.waits.places
  pub others : KeepsOthers old new thread.slot
  pub clock : new.waits.clock ≡ old.waits.clock
  pub exchange : new.exchange ≡ old.exchange
  pub live : new.live ≡ old.live + 1
  pub next : new.next ≡ old.next + 1

-- ---- a thread continues

-- a thread may continue from its rest: a function exists with as many parameters as it is given, or the call is ready,
-- now or at some time
abbrev pub MayGo : ProgramTree → Exchanging → List ℕ → Rest → Type 0
MayGo tree x words (rest.Fresh function argument) =
    (function < length tree.functions) × ((signature_at (map signature_of tree.functions) function).params ≡ length (option_to_list argument))
MayGo tree x words (rest.Blocked block thread) = IsTrue ((row_of x block).ready || is_some (row_of x block).wait) × IsThread tree thread words
MayGo tree x words rest.Away = ⊥

pub record MayBegin (tree : ProgramTree) (threads : ThreadsState) (words : List ℕ) (chosen : ThreadId) : Type 0 where
  pub slot : Slot
  pub there : get threads.slots chosen.slot ≡ Some slot
  pub waits : IsSome (wait_at threads.waits chosen.slot)
  pub waits_as : WaitsAs slot.rest (wait_at threads.waits chosen.slot)
  pub full : IsFull tree words
  pub may : MayGo tree threads.exchange words slot.rest

-- the thread continues from its rest: from the start of its function, or with the result of its call, which takes what
-- it waited for
abbrev pub GoesOn : ProgramTree → Rest → (old : Exchanging) (old_words : List ℕ) (new : Exchanging) (words : List ℕ) → Thread → Type 0
GoesOn tree (rest.Fresh function argument) old old_words new words thread =
    (running_of tree thread words ≡ started tree function (option_to_list argument) (globals_of tree old_words)) × (words ≡ old_words) × (new ≡ old)
GoesOn tree (rest.Blocked block blocked) old old_words new words thread =
    (running_of tree thread words ≡ source_resume (waiting_of tree blocked) (record { result = (row_of old block).result; globals = globals_of tree old_words }))
    × (new ≡ record old { exchange = (row_of old block).after })
GoesOn tree rest.Away old old_words new words thread = ⊥

-- the state at rest that was at its place, which is now taken, and the thread that continues from it
pub record HasBegun (tree : ProgramTree) (old : ThreadsState) (old_words : List ℕ) (new : ThreadsState) (words : List ℕ) (chosen : ThreadId) (thread : Thread) : Type 0 where
  pub slot : Slot
  pub was : get old.slots chosen.slot ≡ Some slot
  pub away : get new.slots chosen.slot ≡ Some (record slot { rest = rest.Away })
  pub waits : wait_at new.waits chosen.slot ≡ None
  pub others : KeepsOthers old new chosen.slot
  pub clock : new.waits.clock ≡ old.waits.clock
  pub goes_on : GoesOn tree slot.rest old.exchange old_words new.exchange words thread
  pub thread_is : IsThread tree thread words
  pub caps : new.exchange.caps ≡ old.exchange.caps
  pub backlog : new.exchange.backlog ≡ old.exchange.backlog
  pub live : new.live ≡ old.live
  pub next : new.next ≡ old.next

-- ---- a thread rests

-- the running thread is at its place and doesn't wait
pub record IsAway (threads : ThreadsState) (running : ThreadId) : Type 0 where
  pub slot : Slot
  pub there : get threads.slots running.slot ≡ Some slot
  pub number_is : slot.number ≡ running.number
  pub waits : wait_at threads.waits running.slot ≡ None
  pub place : running.slot < length threads.waits.places

-- it has blocked at a call, at the clock
pub record HasBlocked (old : ThreadsState) (running : ThreadId) (block : Block) (thread : Thread) (new : ThreadsState) : Type 0 where
  pub blocked : (slot : Slot) → get old.slots running.slot ≡ Some slot → get new.slots running.slot ≡ Some (record slot { rest = rest.Blocked block thread })
  pub waits : wait_at new.waits running.slot ≡ Some (Wait.At block old.waits.clock)
  pub others : KeepsOthers old new running.slot
  pub clock : new.waits.clock ≡ old.waits.clock
  pub exchange : new.exchange ≡ old.exchange
  pub live : new.live ≡ old.live
  pub next : new.next ≡ old.next

-- it has ended
pub record HasEnded (old : ThreadsState) (running : ThreadId) (new : ThreadsState) : Type 0 where
  pub gone : get new.slots running.slot ≡ None
  pub others : (other : ℕ) → other ≢ running.slot → get new.slots other ≡ get old.slots other
  pub rest : new ≡ record old { slots = new.slots; live = new.live }
  pub live : new.live + 1 ≡ old.live
