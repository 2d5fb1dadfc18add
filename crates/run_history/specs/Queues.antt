-- The time of requests in the queue, from their arrival to the `accept` that takes them.
use Rattle.std.specs.Prelude.{ℕ, List, Option, Some, None, slice_get}
use Rattle.run_history.specs.declared.queues.Queued.{Queued}

-- from the time of its arrival, if it has one, to the clock at which a thread took it, if one did
abbrev pub queued_by : Option ℕ → Option ℕ → Option ℕ → Option Queued
queued_by (Some time) (Some thread) (Some clock) = Some (record { arrived = time; taken = clock; thread = thread })
queued_by _ _ _ = None

abbrev pub queued_from : List ℕ → Option ℕ → Option ℕ → Option ℕ → Option Queued
queued_from times None thread clock = None
queued_from times (Some line) thread clock = queued_by (slice_get times line) thread clock

-- the request of a number, given the times of the trace's events, the places in the trace of the requests that came,
-- and the threads and clocks of the takes
abbrev pub queued_in : List ℕ → List ℕ → List ℕ → List ℕ → ℕ → Option Queued
queued_in times arrivals takers taken request = queued_from times (slice_get arrivals request) (slice_get takers request) (slice_get taken request)
