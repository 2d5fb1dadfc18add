-- Which threads of a world are ready to be chosen: those that haven't run yet, and those that are blocked at a call
-- that is ready. The thread whose segment is in progress isn't.
use Rattle.std.specs.Prelude.{◌≡◌, ℕ, ◌≤◌, ◌&&◌, Bool, false, not, map, All, Contains, Option, Some, None, if◌then◌else◌, nat_eq, slice_index_or}
use Rattle.std.specs.List.{list_any}
use Rattle.cap_word.specs.declared.threads.ThreadId.{ThreadId}
use Rattle.machine_world.specs.Runs.{is_blocked_at_accept, may_run, asleep_until}
use Rattle.machine_world.specs.Threads.{Thread, World, Setting, thread_of}
use Rattle.thread_core.specs.Worlds.{Held}

-- the number is that of this thread
abbrev pub is_same_number : Option ℕ → ℕ → Bool
is_same_number None number = false
is_same_number (Some other) number = nat_eq other number

abbrev pub is_ready_thread : Setting → World → Thread → Bool
is_ready_thread s w thread = if is_same_number w.running thread.number then false else may_run s w thread.blocked

abbrev pub is_at_accept_thread : Thread → Bool
is_at_accept_thread thread = is_blocked_at_accept thread.blocked

-- ---- one thread, by its place and number

abbrev pub passes : (Thread → Bool) → Option Thread → Bool
passes test None = false
passes test (Some thread) = test thread

-- the thread lives and passes the test
abbrev pub passes_at : (Thread → Bool) → Held → ThreadId → Bool
passes_at test held thread =
    if is_same_number (slice_index_or held.places thread.slot None) thread.number then passes test (thread_of held.machine thread.number) else false

abbrev pub is_ready_in : Held → ThreadId → Bool
is_ready_in held thread = passes_at (is_ready_thread held.setting held.machine) held thread

abbrev pub is_at_accept_in : Held → ThreadId → Bool
is_at_accept_in held thread = passes_at is_at_accept_thread held thread

-- ---- all threads

abbrev pub any_ready_in : Held → Bool
any_ready_in held = list_any (is_ready_thread held.setting held.machine) held.machine.threads

abbrev pub any_elsewhere_in : Held → Bool
any_elsewhere_in held = list_any (λ thread. is_ready_thread held.setting held.machine thread && not (is_at_accept_thread thread)) held.machine.threads

-- the least time at which a sleeping thread wakes; None exactly if no thread sleeps
abbrev pub IsWake : Setting → World → Option ℕ → Type 0
IsWake s w None = All (λ thread. asleep_until s w thread.blocked ≡ None) w.threads
IsWake s w (Some time) =
    Contains (map (λ thread. asleep_until s w thread.blocked) w.threads) (Some time)
    × ((other : ℕ) → Contains (map (λ thread. asleep_until s w thread.blocked) w.threads) (Some other) → time ≤ other)
