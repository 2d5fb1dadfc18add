-- Which threads are ready, by the table of the modelled calls, from the queues and uses of the source world and the
-- clock. A thread that hasn't run yet is always ready.
use Rattle.std.specs.Prelude.{ℕ, Bool, true, false, not, ◌&&◌, List, Option, Some, None, filter_map, slice_get}
use Rattle.std.specs.List.{list_any}
use Rattle.cap_word.specs.Calls.{is_accept}
use Rattle.c_mean.specs.ModelledCalls.{Exchange, wakes_at}
use Rattle.c_mean.specs.ModelledCalls as table
use Rattle.c_mean.specs.World.{Rest, Fresh, Blocked, Ended}
use Rattle.choice_rules.specs.Policy.{Policy}
use Rattle.choice_rules.specs.Seen.{Waiter, Seen}

-- the state of a thread at rest, if it has started
abbrev pub rest_of : Seen → ℕ → Option Rest
rest_of seen thread = slice_get seen.source.threads thread

abbrev pub is_ready_at : List ℕ → Exchange → ℕ → ℕ → Option Rest → Bool
is_ready_at caps x clock since (Some (Fresh function arguments)) = true
is_ready_at caps x clock since (Some (Blocked block waiting)) = table.is_ready caps x clock since block
is_ready_at caps x clock since (Some Ended) = false
is_ready_at caps x clock since None = false

-- a waiting thread is ready at a clock
abbrev pub is_ready : Policy → Seen → ℕ → Waiter → Bool
is_ready policy seen clock w = is_ready_at policy.caps seen.source.exchange clock w.since (rest_of seen w.thread)

-- it is blocked at `accept`
abbrev pub is_accepting : Option Rest → Bool
is_accepting (Some (Blocked block waiting)) = is_accept block
is_accepting _ = false

abbrev pub at_accept : Seen → Waiter → Bool
at_accept seen w = is_accepting (rest_of seen w.thread)

abbrev pub any_ready : Policy → Seen → ℕ → Bool
any_ready policy seen clock = list_any (is_ready policy seen clock) seen.waiting

-- a thread that isn't at `accept` is ready
abbrev pub any_elsewhere : Policy → Seen → ℕ → Bool
any_elsewhere policy seen clock = list_any (λ w. is_ready policy seen clock w && not (at_accept seen w)) seen.waiting

-- the clock from which a thread is ready in any case, if there is one: if it isn't ready before, it sleeps until then
abbrev pub wakes : ℕ → Option Rest → Option ℕ
wakes since (Some (Blocked block waiting)) = wakes_at since block
wakes since _ = None

-- the same for all threads: if none is ready, these are the times at which sleeping threads wake
abbrev pub waking_times : Seen → List ℕ
waking_times seen = filter_map (λ w. wakes w.since (rest_of seen w.thread)) seen.waiting
