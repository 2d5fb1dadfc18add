-- A number that decreases at each step of a run: fuel bounds the segments, the lines of the trace bound the deliveries,
-- and between two of these the clock advances at most once.
use Rattle.std.specs.Prelude.{ℕ, ◌+◌, ◌-◌, ◌*◌, ◌<◌, ◌||◌, Bool, false, Option, None, Some, Result, Ok, Err, if◌then◌else◌, nat_le}
use Rattle.run_course.specs.Kept.{Kept}
use Rattle.run_course.specs.declared.course.Under.{Under}
use Rattle.run_course.specs.declared.ends.Failure.{Failure}
use Rattle.run_course.specs.declared.ends.Halt.{Halt}
use Rattle.run_course.specs.declared.looking.Next.{Next}
use Rattle.thread_core.specs.Ready.{any_ready_in}
use Rattle.thread_core.specs.Worlds.{Held}
use Rattle.thread_core.specs.declared.turns.Turn.{Turn}

-- ---- the bound by fuel

abbrev pub turn_rank : Turn → ℕ
turn_rank (Turn.Out value) = 2
turn_rank (Turn.Spawned thread) = 2
turn_rank (Turn.Blocked key cost) = 2
turn_rank (Turn.Ended cost) = 2
turn_rank (Turn.Cut stop cost) = 0
turn_rank Turn.Memory = 0

abbrev pub under_rank : Option Under → ℕ
under_rank None = 1
under_rank (Some under) = turn_rank under.turn

abbrev pub long_rank : Kept → Held → ℕ
long_rank k held = 3 * (held.setting.fuel - held.machine.cost) + under_rank k.under

-- ---- the bound by the trace

abbrev pub next_rank : Next → ℕ
next_rank (Next.Event event) = 2
next_rank Next.Unread = 1
next_rank Next.Over = 0

abbrev pub lines_rank : Kept → ℕ
lines_rank k = 3 * (1000000 - k.reader.lines) + next_rank k.next

-- ---- the clock

abbrev pub due_at : Next → ℕ → Bool
due_at (Next.Event event) clock = nat_le event.time clock
due_at Next.Unread clock = false
due_at Next.Over clock = false

-- 1 if nothing happens at the clock
abbrev pub stuck_rank : Next → Held → ℕ
stuck_rank next held = if due_at next held.machine.clock || any_ready_in held then 0 else 1

abbrev pub short_rank : Kept → Held → ℕ
short_rank k held = 2 * lines_rank k + stuck_rank k.next held

-- ---- the whole

abbrev pub rank : Kept → Held → ℕ
rank k held = 6000010 * long_rank k held + short_rank k held

-- the rank after a step that continues is lower
abbrev pub FallsTo : ℕ → Result (Option Halt) Failure → ℕ → Type 0
FallsTo old (Ok None) new = new < old
FallsTo old (Ok (Some halt)) new = Unit {0}
FallsTo old (Err failure) new = Unit {0}
