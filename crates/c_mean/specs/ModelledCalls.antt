-- The table of the modelled calls, one row for each, for source, flat code and machine alike. The idea of threads that
-- switch only at blocking calls, and of resources whose use is observed, is Capriccio's (SOSP 2003).
use Rattle.std.specs.Prelude.{ℕ, zero, suc, ◌+◌, ◌-◌, ◌^◌, Bool, true, false, ◌||◌, List, [], ◌∷◌, ◌++◌, length, drop, Option, Some, None, if◌then◌else◌, nat_lt, nat_le, slice_index, slice_index_or, slice_set}
use Rattle.cap_word.specs.declared.calls.Ask.{Ask}
use Rattle.cap_word.specs.declared.calls.Block.{Block}
use Rattle.cap_word.specs.declared.traps.TrapKind.{TrapKind}

-- what threads share besides globals: the queue of arrivals and the messages of each of the 64 channels, the oldest
-- first, and the use of each resource by its number, from 1 to 7
pub record Exchange : Type 0 where
  pub arrivals : List ℕ
  pub channels : List (List ℕ)
  pub uses : List ℕ

-- the caps of the resources by their numbers; number 0 isn't read, and a cap of 0 means that the resource doesn't exist
abbrev pub cap_of : List ℕ → ℕ → ℕ
cap_of caps zero = 0
cap_of caps (suc r) = slice_index caps (suc r)

abbrev pub use_of : Exchange → ℕ → ℕ
use_of x r = slice_index x.uses r

abbrev pub with_use : Exchange → ℕ → ℕ → Exchange
with_use x r use_now = record x { uses = slice_set x.uses r use_now }

abbrev pub channel_of : Exchange → ℕ → List ℕ
channel_of x channel = slice_index_or x.channels channel []

abbrev pub with_channel : Exchange → ℕ → List ℕ → Exchange
with_channel x channel messages = record x { channels = slice_set x.channels channel messages }

-- a queue isn't empty; its oldest item; and the queue without it
abbrev pub holds_some : List ℕ → Bool
holds_some queue = nat_lt 0 (length queue)

abbrev pub oldest : List ℕ → ℕ
oldest queue = slice_index queue 0

abbrev pub without_oldest : List ℕ → List ℕ
without_oldest queue = drop 1 queue

-- a word of at least 2 ^ 31 is a negative number
abbrev pub is_negative : ℕ → Bool
is_negative n = nat_le (2 ^ 31) n

-- a number of ticks as a duration: 0 if it is negative
abbrev pub ticks_of : ℕ → ℕ
ticks_of n = if is_negative n then 0 else n

abbrev pub trap_if : Bool → TrapKind → Option TrapKind
trap_if true trap = Some trap
trap_if false trap = None

-- a channel outside 0 to 63
abbrev pub channel_trap : ℕ → Option TrapKind
channel_trap channel = trap_if (nat_le 64 channel) TrapKind.Channel

-- a resource that doesn't exist, or an amount that is negative or above the maximum
abbrev pub resource_trap : List ℕ → ℕ → ℕ → ℕ → Option TrapKind
resource_trap caps r amount most = trap_if (nat_lt (cap_of caps r) 1 || is_negative amount || nat_lt most amount) TrapKind.Resource

-- ---- calls that block

-- a row: the trap of the call, if it is one; and for a thread blocked at it: whether the exchange makes it ready, the
-- number of ticks after which it is ready in any case, and its result and the exchange when it resumes
pub record BlockingRow : Type 0 where
  pub trap : Option TrapKind
  pub ready : Bool
  pub wait : Option ℕ
  pub result : ℕ
  pub after : Exchange

abbrev pub blocking_row : List ℕ → Exchange → Block → BlockingRow
-- accept() takes the oldest arrival
blocking_row caps x Block.Accept = record {
  trap = None;
  ready = holds_some x.arrivals;
  wait = None;
  result = oldest x.arrivals;
  after = record x { arrivals = without_oldest x.arrivals };
}
-- wait(channel) takes the channel's oldest message
blocking_row caps x (Block.Wait channel) = record {
  trap = channel_trap channel;
  ready = holds_some (channel_of x channel);
  wait = None;
  result = oldest (channel_of x channel);
  after = with_channel x channel (without_oldest (channel_of x channel));
}
-- sleep(ticks)
blocking_row caps x (Block.Sleep ticks) = record { trap = None; ready = false; wait = Some (ticks_of ticks); result = 0; after = x }
-- yield()
blocking_row caps x Block.Yield = record { trap = None; ready = true; wait = None; result = 0; after = x }
-- take(resource, amount) increases the use
blocking_row caps x (Block.Take resource amount) = record {
  trap = resource_trap caps resource amount (cap_of caps resource);
  ready = nat_le (use_of x resource + amount) (cap_of caps resource);
  wait = None;
  result = 0;
  after = with_use x resource (use_of x resource + amount);
}
-- waitfor(channel, ticks) removes no message: its result is whether the channel has one
blocking_row caps x (Block.WaitFor channel ticks) = record {
  trap = channel_trap channel;
  ready = holds_some (channel_of x channel);
  wait = Some (ticks_of ticks);
  result = if holds_some (channel_of x channel) then 1 else 0;
  after = x;
}

-- the clock at which a thread wakes, from the time at which it blocked
abbrev pub wake_of : ℕ → Option ℕ → Option ℕ
wake_of since None = None
wake_of since (Some ticks) = Some (since + ticks)

abbrev pub wakes_at : ℕ → Block → Option ℕ
wakes_at since block = wake_of since (blocking_row [] (record { arrivals = []; channels = []; uses = [] }) block).wait

abbrev pub is_past : ℕ → Option ℕ → Bool
is_past clock None = false
is_past clock (Some time) = nat_le time clock

-- whether a thread that blocked at this time is ready
abbrev pub is_ready : List ℕ → Exchange → ℕ → ℕ → Block → Bool
is_ready caps x clock since block = (blocking_row caps x block).ready || is_past clock (wake_of since (blocking_row caps x block).wait)

-- the clock until which it sleeps: none if it is ready, or if no time makes it ready
abbrev pub sleeps_until : List ℕ → Exchange → ℕ → ℕ → Block → Option ℕ
sleeps_until caps x clock since block = if is_ready caps x clock since block then None else wakes_at since block

-- ---- calls that are answered at once

-- a row: the trap of the call, if it is one; the result; the exchange after it; the number that it outputs; and the
-- function and the argument with which it starts a thread
pub record ImmediateRow : Type 0 where
  pub trap : Option TrapKind
  pub result : ℕ
  pub after : Exchange
  pub prints : Option ℕ
  pub starts : Option (ℕ × ℕ)

-- the row of a call of the thread with this number, if the next thread to start has the number `next`
abbrev pub immediate_row : List ℕ → Exchange → ℕ → ℕ → Ask → ImmediateRow
-- put(value) outputs it
immediate_row caps x number next (Ask.Put value) = record { trap = None; result = 0; after = x; prints = Some value; starts = None }
-- spawn(function, argument) starts a thread; its result is that thread's number
immediate_row caps x number next (Ask.Spawn function argument) = record { trap = None; result = next; after = x; prints = None; starts = Some (function, argument) }
-- give(resource, amount) decreases the use
immediate_row caps x number next (Ask.Give resource amount) = record {
  trap = resource_trap caps resource amount (use_of x resource);
  result = 0;
  after = with_use x resource (use_of x resource - amount);
  prints = None;
  starts = None;
}
-- self() is the thread's number
immediate_row caps x number next Ask.SelfNumber = record { trap = None; result = number; after = x; prints = None; starts = None }

-- ---- deliveries from outside

pub data Delivery : Type 0 where
  Arrival : (value : ℕ) → Delivery
  Message : (channel value : ℕ) → Delivery

-- the queue that a delivery joins
abbrev pub queue_of : Exchange → Delivery → List ℕ
queue_of x (Arrival value) = x.arrivals
queue_of x (Message channel value) = channel_of x channel

-- a delivery is dropped if that queue has the maximum number of items
abbrev pub is_dropped : ℕ → Exchange → Delivery → Bool
is_dropped backlog x delivery = nat_le backlog (length (queue_of x delivery))

-- the exchange after a delivery joined the end of its queue
abbrev pub with_delivery : Exchange → Delivery → Exchange
with_delivery x (Arrival value) = record x { arrivals = x.arrivals ++ value ∷ [] }
with_delivery x (Message channel value) = with_channel x channel (channel_of x channel ++ value ∷ [])
