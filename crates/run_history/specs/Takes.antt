-- The last wait of a thread at some places.
use Rattle.std.specs.Prelude.{ℕ, Bool, false, List, Option, Some, None, is_some, nat_eq, slice_index_or, if◌then◌else◌}
use Rattle.run_history.specs.declared.happenings.Wait.{Wait}
use Rattle.run_history.specs.declared.happenings.Happening.{Happening}
use Rattle.run_history.specs.declared.happenings.Happening.TheVariants.{Came, Lost, Started, Waited, Put, Ran, Nothing}

-- after a wait: one that took a request resets it, one at such a place replaces it, and any other leaves it unchanged
abbrev pub after_wait : List Bool → Wait → Option Wait → Option Wait
after_wait places wait before = if is_some wait.request then None else (if slice_index_or places wait.site false then Some wait else before)

-- after a wait, if it is this thread's
abbrev pub after_wait_of : List Bool → ℕ → Wait → Option Wait → Option Wait
after_wait_of places thread wait before = if nat_eq wait.thread thread then after_wait places wait before else before

-- after the happening of one more entry
abbrev pub with_told : List Bool → ℕ → Happening → Option Wait → Option Wait
with_told places thread (Came clock item) before = before
with_told places thread (Lost clock item) before = before
with_told places thread (Started number clock) before = before
with_told places thread (Waited wait) before = after_wait_of places thread wait before
with_told places thread (Put number value) before = before
with_told places thread (Ran segment free) before = before
with_told places thread Nothing before = before
