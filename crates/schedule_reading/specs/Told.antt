-- What the threads of a log's run expose: which are ready, and what each waits for.
use Rattle.std.specs.Prelude.{◌≡◌, ℕ, Bool, List, Option, Some, None, option_map, if◌then◌else◌, nat_eq, slice_index_or}
use Rattle.slab.specs.Slab.{Slab, get}
use Rattle.cap_word.specs.declared.threads.ThreadId.{ThreadId}
use Rattle.ready_tree.specs.declared.needs.Need.{Need}
use Rattle.thread_exchange.specs.Exchanges.{Exchanging}
use Rattle.thread_waits.specs.Needs.{need_for}
use Rattle.thread_waits.specs.Waiting as waits
use Rattle.thread_waits.specs.Waiting.{Waiting, wait_at, IsUntrapped}
use Rattle.thread_waits.specs.declared.waits.Wait.{Wait}
use Rattle.schedule_reading.specs.declared.threads.Rest.{Rest}
use Rattle.schedule_reading.specs.declared.threads.Rest.TheVariants as rest
use Rattle.schedule_reading.specs.declared.threads.Slot.{Slot}

-- the live threads at their places, what the waiting ones wait for, the queues and uses, the number of live threads,
-- and the number of the next one
pub record ThreadsState : Type 0 where
  pub slots : Slab Slot
  pub waits : Waiting
  pub exchange : Exchanging
  pub live : ℕ
  pub next : ℕ

-- the wait at a place
abbrev pub at_place : List (Option Wait) → ℕ → Option Wait
at_place places place = slice_index_or places place None

abbrev pub wait_of : List (Option Wait) → ThreadId → Option Slot → Option Wait
wait_of places thread None = None
wait_of places thread (Some slot) = if nat_eq slot.number thread.number then at_place places thread.slot else None

-- the wait of a thread, if it is at its place and doesn't run
abbrev pub waits_in : Slab Slot → List (Option Wait) → ThreadId → Option Wait
waits_in slots places thread = wait_of places thread (get slots thread.slot)

abbrev pub waits_for : ThreadsState → ThreadId → Option Wait
waits_for threads thread = waits_in threads.slots threads.waits.places thread

abbrev pub is_ready_in : ThreadsState → ThreadId → Bool
is_ready_in threads thread = waits.is_ready_in threads.exchange.caps threads.exchange.exchange threads.waits.clock (waits_for threads thread)

abbrev pub at_accept_in : ThreadsState → ThreadId → Bool
at_accept_in threads thread = waits.is_at_accept (waits_for threads thread)

abbrev pub any_ready_in : ThreadsState → Bool
any_ready_in threads = waits.any_ready_in threads.exchange.caps threads.exchange.exchange threads.waits

abbrev pub any_elsewhere_in : ThreadsState → Bool
any_elsewhere_in threads = waits.any_elsewhere_in threads.exchange.caps threads.exchange.exchange threads.waits

-- the need is that of the thread's wait
abbrev pub VouchesIn : Slab Slot → List (Option Wait) → ThreadId → Need → Type 0
VouchesIn slots places thread need = option_map need_for (waits_in slots places thread) ≡ Some need

abbrev pub Vouches : ThreadsState → ThreadId → Need → Type 0
Vouches threads thread need = VouchesIn threads.slots threads.waits.places thread need

-- this holds of all waiting threads
abbrev pub AreUntrapped : Exchanging → Waiting → Type 0
AreUntrapped x waiting = (place : ℕ) → IsUntrapped x (wait_at waiting place)

-- the wait at the place of a thread with this rest
abbrev pub WaitsAs : Rest → Option Wait → Type 0
WaitsAs (rest.Fresh function argument) wait = wait ≡ Some Wait.Fresh
WaitsAs (rest.Blocked block thread) wait = (since : ℕ) × (wait ≡ Some (Wait.At block since))
WaitsAs rest.Away wait = wait ≡ None
