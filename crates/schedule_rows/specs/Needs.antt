-- Threads whose numbers determine their needs.
use Rattle.std.specs.Prelude.{ℕ, ◌≡◌, ◌==◌, ◌-◌, ◌^◌, if◌then◌else◌}
use Rattle.cap_word.specs.declared.threads.ThreadId.{ThreadId}
use Rattle.ready_tree.specs.declared.needs.Need.{Need}
use Rattle.scheduler.specs.State.{SchedulerState, AreKnown}

-- the need of a thread: for the first six something of each kind, for each other one that the clock is its number
abbrev pub need_by : ℕ → Need
need_by number =
    if number == 1 then Need.Nothing
    else if number == 2 then Need.Arrival
    else if number == 3 then Need.Event 4 (2 ^ 64 - 1)
    else if number == 4 then Need.Event 0 100
    else if number == 5 then Need.Event 4 50
    else if number == 6 then Need.Amount 1 3
    else Need.Event 0 number

-- a thread's need is that of its number
abbrev pub IsByNumber : ThreadId → Need → Type 0
IsByNumber thread need = need ≡ need_by thread.number

-- the recorded needs are those of the numbers
abbrev pub KnowsNeeds : SchedulerState → Type 0
KnowsNeeds scheduler = AreKnown IsByNumber scheduler
