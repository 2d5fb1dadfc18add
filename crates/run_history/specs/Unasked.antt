-- The outputs of threads while they served no request.
use Rattle.std.specs.Prelude.{ℕ, ◌+◌, Option, Some, None, nat_eq, if◌then◌else◌}
use Rattle.run_history.specs.declared.happenings.Segment.{Segment}
use Rattle.run_history.specs.declared.happenings.Happening.{Happening}
use Rattle.run_history.specs.declared.happenings.Happening.TheVariants.{Came, Lost, Started, Waited, Put, Ran, Nothing}

-- the recorded number of words of a thread; 0 if there is none
abbrev pub puts_in : Option ℕ → ℕ
puts_in None = 0
puts_in (Some puts) = puts

-- the outputs of a segment, if it served no request
abbrev pub puts_by : ℕ → Option ℕ → ℕ
puts_by puts None = puts
puts_by puts (Some request) = 0

abbrev pub unasked_puts : Segment → ℕ
unasked_puts segment = puts_by segment.puts segment.request

-- they count if the segment is of this thread
abbrev pub with_segment : ℕ → Segment → ℕ → ℕ
with_segment thread segment before = if nat_eq segment.thread thread then before + unasked_puts segment else before

-- after the happening of one more entry
abbrev pub with_puts : ℕ → Happening → ℕ → ℕ
with_puts thread (Came clock item) before = before
with_puts thread (Lost clock item) before = before
with_puts thread (Started number clock) before = before
with_puts thread (Waited wait) before = before
with_puts thread (Put number value) before = before
with_puts thread (Ran segment free) before = with_segment thread segment before
with_puts thread Nothing before = before
