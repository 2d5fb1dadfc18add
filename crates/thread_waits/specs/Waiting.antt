-- Waiting threads by place, and which of them are ready.
use Rattle.std.specs.Prelude.{◌≡◌, ℕ, ◌+◌, ◌<◌, ◌≤◌, ◌^◌, ◌&&◌, Bool, true, false, not, List, map, All, Contains, Option, Some, None, slice_index_or}
use Rattle.std.specs.List.{list_any}
use Rattle.cap_word.specs.Calls.{is_accept}
use Rattle.cap_word.specs.declared.calls.Block.{Block}
use Rattle.c_mean.specs.ModelledCalls.{Exchange, is_ready, sleeps_until}
use Rattle.thread_exchange.specs.Exchanges.{Exchanging, row_of}
use Rattle.thread_waits.specs.declared.waits.Wait.{Wait}

-- the wait at each place, None if no thread waits there, and the clock
pub record Waiting : Type 0 where
  pub places : List (Option Wait)
  pub clock : ℕ

-- the wait at a place
abbrev pub wait_at : Waiting → ℕ → Option Wait
wait_at w place = slice_index_or w.places place None

-- ---- readiness

-- whether a thread with this wait is ready, with these caps, queues and uses, and this clock
abbrev pub is_ready_for : List ℕ → Exchange → ℕ → Wait → Bool
is_ready_for caps x clock Wait.Fresh = true
is_ready_for caps x clock (Wait.At block since) = is_ready caps x clock since block

abbrev pub is_at_accept_for : Wait → Bool
is_at_accept_for Wait.Fresh = false
is_at_accept_for (Wait.At block since) = is_accept block

-- no thread is ready at a place where no thread waits
abbrev pub is_ready_in : List ℕ → Exchange → ℕ → Option Wait → Bool
is_ready_in caps x clock None = false
is_ready_in caps x clock (Some wait) = is_ready_for caps x clock wait

abbrev pub is_at_accept : Option Wait → Bool
is_at_accept None = false
is_at_accept (Some wait) = is_at_accept_for wait

-- whether any thread is ready, and whether any that isn't at `accept` is
abbrev pub any_ready_in : List ℕ → Exchange → Waiting → Bool
any_ready_in caps x w = list_any (is_ready_in caps x w.clock) w.places

abbrev pub any_elsewhere_in : List ℕ → Exchange → Waiting → Bool
any_elsewhere_in caps x w = list_any (λ wait. is_ready_in caps x w.clock wait && not (is_at_accept wait)) w.places

-- ---- sleeping threads

-- the clock until which a thread with this wait sleeps, with these caps, queues and uses, and this clock
abbrev pub sleeps_for : List ℕ → Exchange → ℕ → Wait → Option ℕ
sleeps_for caps x clock Wait.Fresh = None
sleeps_for caps x clock (Wait.At block since) = sleeps_until caps x clock since block

-- no thread sleeps at a place where no thread waits
abbrev pub sleeps_in : List ℕ → Exchange → ℕ → Option Wait → Option ℕ
sleeps_in caps x clock None = None
sleeps_in caps x clock (Some wait) = sleeps_for caps x clock wait

-- the least time at which a sleeping thread wakes; None exactly if no thread sleeps
abbrev pub IsWake : List ℕ → Exchange → Waiting → Option ℕ → Type 0
IsWake caps x w None = All (λ wait. sleeps_in caps x w.clock wait ≡ None) w.places
IsWake caps x w (Some time) =
    Contains (map (sleeps_in caps x w.clock) w.places) (Some time)
    × ((other : ℕ) → Contains (map (sleeps_in caps x w.clock) w.places) (Some other) → time ≤ other)

-- ---- possible waits

-- a channel below 64, a resource from 1 to 7, and a possible clock
abbrev pub IsBlockInRange : Block → Type 0
IsBlockInRange Block.Accept = Unit {0}
IsBlockInRange (Block.Wait channel) = channel < 64
IsBlockInRange (Block.Sleep ticks) = Unit {0}
IsBlockInRange Block.Yield = Unit {0}
IsBlockInRange (Block.Take resource amount) = (1 ≤ resource) × (resource < 8)
IsBlockInRange (Block.WaitFor channel ticks) = channel < 64

abbrev pub latest : ℕ
latest = 2 ^ 63 + 2 ^ 32

abbrev pub IsWaitInRange : Wait → Type 0
IsWaitInRange Wait.Fresh = Unit {0}
IsWaitInRange (Wait.At block since) = IsBlockInRange block × (since ≤ latest)

abbrev pub IsWaitInRangeIf : Option Wait → Type 0
IsWaitInRangeIf None = Unit {0}
IsWaitInRangeIf (Some wait) = IsWaitInRange wait

-- the call at which a thread waits was no trap, and it has waited since a possible clock
abbrev pub IsUntrapped : Exchanging → Option Wait → Type 0
IsUntrapped x None = Unit {0}
IsUntrapped x (Some Wait.Fresh) = Unit {0}
IsUntrapped x (Some (Wait.At block since)) = ((row_of x block).trap ≡ None) × (since ≤ latest)
