-- What is known of a run from the entries of its log so far, and the happening of the next entry.
use Rattle.std.specs.Prelude.{ℕ, ◌+◌, ◌^◌, ◌≤◌, Bool, false, List, [], ◌∷◌, Option, Some, None, slice_index, slice_index_or, if◌then◌else◌}
use Rattle.std.specs.BTreeMap.{insert_entry, is_at}
use Rattle.std.specs.Map.{lookup}
use Rattle.std.specs.Ordering.{nat_cmp}
use Rattle.schedule_log.specs.declared.entries.Entry.{Entry}
use Rattle.schedule_log.specs.declared.entries.StopLine.{StopLine}
use Rattle.run_history.specs.declared.threads.Thread.{Thread}
use Rattle.run_history.specs.declared.threads.Standing.{Standing}
use Rattle.run_history.specs.declared.threads.Standing.TheVariants.{Runs, Waits, Ended}
use Rattle.run_history.specs.declared.happenings.Segment.{Segment}
use Rattle.run_history.specs.declared.happenings.Happening.{Happening}
use Rattle.run_history.specs.declared.happenings.Happening.TheVariants.{Came, Lost, Started, Waited, Put, Ran, Nothing}

-- each thread that has run, in the order of their numbers; the clock of the latest choice, and the number of words put
-- since; the number of requests taken
pub record Known : Type 0 where
  pub threads : List (ℕ × Thread)
  pub began : ℕ
  pub puts : ℕ
  pub taken : ℕ

-- the state before the first entry
abbrev pub nothing_known : Known
nothing_known = record { threads = []; began = 0; puts = 0; taken = 0 }

-- ---- a thread

-- what is known of a thread; None if it hasn't run
abbrev pub thread_in : Known → ℕ → Option Thread
thread_in k thread = lookup (is_at (nat_cmp thread)) k.threads

-- a thread in this state waits at `accept`: `accepts` says of each site whether its call is `accept`
abbrev pub stands_at_accept : List Bool → Standing → Bool
stands_at_accept accepts Runs = false
stands_at_accept accepts (Waits site node since) = slice_index_or accepts site false
stands_at_accept accepts Ended = false

abbrev pub at_accept : List Bool → Option Thread → Bool
at_accept accepts None = false
at_accept accepts (Some thread) = stands_at_accept accepts thread.standing

-- the request that a thread serves: the one that it took last
abbrev pub request_of : Option Thread → Option ℕ
request_of None = None
request_of (Some thread) = thread.request

-- the request that it serves after it is chosen: requests are numbered in the order in which they are taken
abbrev pub next_request : Bool → ℕ → Option Thread → Option ℕ
next_request takes taken before = if takes then Some taken else request_of before

-- with new knowledge of one thread
abbrev pub known_thread : ℕ → Thread → Known → Known
known_thread thread now k = record { threads = insert_entry nat_cmp k.threads thread now; began = k.began; puts = k.puts; taken = k.taken }

-- with a new state of a thread, which serves the same request
abbrev pub with_standing : ℕ → Standing → Known → Known
with_standing thread standing k = known_thread thread (record { standing = standing; request = request_of (thread_in k thread) }) k

-- ---- what is known after an entry

-- `run`: the thread runs from that clock on; it takes the next request if it waited at `accept`
abbrev pub chosen_by : Bool → ℕ → ℕ → Known → Known
chosen_by takes clock thread k = record {
  threads = insert_entry nat_cmp k.threads thread (record { standing = Runs; request = next_request takes k.taken (thread_in k thread) });
  began = clock;
  puts = 0;
  taken = if takes then k.taken + 1 else k.taken;
}

abbrev pub chosen : List Bool → ℕ → ℕ → Known → Known
chosen accepts clock thread k = chosen_by (at_accept accepts (thread_in k thread)) clock thread k

-- `block`: the thread waits at the innermost site of the key
abbrev pub blocked_at : List ℕ → ℕ → ℕ → Standing
blocked_at key node since = Waits (slice_index key 0) node since

abbrev pub with_entry : List Bool → Entry → Known → Known
with_entry accepts (Entry.Event clock item) k = k
with_entry accepts (Entry.Dropped clock item) k = k
with_entry accepts (Entry.Run clock thread node) k = chosen accepts clock thread k
with_entry accepts (Entry.Out thread value) k = record { threads = k.threads; began = k.began; puts = k.puts + 1; taken = k.taken }
with_entry accepts (Entry.Block thread node key cost free) k = with_standing thread (blocked_at key node (k.began + cost)) k
with_entry accepts (Entry.End thread cost free) k = with_standing thread Ended k
with_entry accepts (Entry.Edge from to count cost changes) k = k
with_entry accepts (Entry.Stop line) k = k

-- what is known after some entries, and after those of a whole log
abbrev pub known_from : List Bool → Known → List Entry → Known
known_from accepts k [] = k
known_from accepts k (entry ∷ entries) = known_from accepts (with_entry accepts entry k) entries

abbrev pub known_after : List Bool → List Entry → Known
known_after accepts entries = known_from accepts nothing_known entries

-- ---- the happening of an entry

-- the wait that a choice at that clock ends; none if the thread hasn't run
abbrev pub wait_over : Bool → ℕ → ℕ → ℕ → Option ℕ → Standing → Happening
wait_over takes taken thread clock request Runs = Nothing
wait_over takes taken thread clock request (Waits site node since) =
    Waited (record { thread = thread; site = site; since = since; until = clock; request = next_request takes taken None })
wait_over takes taken thread clock request Ended = Nothing

abbrev pub waited : Bool → ℕ → ℕ → ℕ → Option Thread → Happening
waited takes taken thread clock None = Started thread clock
waited takes taken thread clock (Some before) = wait_over takes taken thread clock before.request before.standing

-- the segment in progress, which ends at that cost
abbrev pub segment_of : ℕ → ℕ → Known → Segment
segment_of thread cost k = record { thread = thread; began = k.began; ended = k.began + cost; puts = k.puts; request = request_of (thread_in k thread) }

abbrev pub stop_tells : StopLine → Known → Happening
stop_tells StopLine.Done k = Nothing
stop_tells StopLine.Idle k = Nothing
stop_tells (StopLine.Trace line) k = Nothing
stop_tells (StopLine.Cut thread stop cost free) k = Ran (segment_of thread cost k) free

abbrev pub happening : List Bool → Entry → Known → Happening
happening accepts (Entry.Event clock item) k = Came clock item
happening accepts (Entry.Dropped clock item) k = Lost clock item
happening accepts (Entry.Run clock thread node) k = waited (at_accept accepts (thread_in k thread)) k.taken thread clock (thread_in k thread)
happening accepts (Entry.Out thread value) k = Put thread value
happening accepts (Entry.Block thread node key cost free) k = Ran (segment_of thread cost k) free
happening accepts (Entry.End thread cost free) k = Ran (segment_of thread cost k) free
happening accepts (Entry.Edge from to count cost changes) k = Nothing
happening accepts (Entry.Stop line) k = stop_tells line k

-- ---- clocks and counts that exceed 64 bits

abbrev pub IsBeyondStop : StopLine → Known → Type 0
IsBeyondStop StopLine.Done k = ⊥
IsBeyondStop StopLine.Idle k = ⊥
IsBeyondStop (StopLine.Trace line) k = ⊥
IsBeyondStop (StopLine.Cut thread stop cost free) k = 2 ^ 64 ≤ k.began + cost

abbrev pub IsBeyond : Entry → Known → Type 0
IsBeyond (Entry.Event clock item) k = ⊥
IsBeyond (Entry.Dropped clock item) k = ⊥
IsBeyond (Entry.Run clock thread node) k = 2 ^ 64 ≤ k.taken + 1
IsBeyond (Entry.Out thread value) k = 2 ^ 64 ≤ k.puts + 1
IsBeyond (Entry.Block thread node key cost free) k = 2 ^ 64 ≤ k.began + cost
IsBeyond (Entry.End thread cost free) k = 2 ^ 64 ≤ k.began + cost
IsBeyond (Entry.Edge from to count cost changes) k = ⊥
IsBeyond (Entry.Stop line) k = IsBeyondStop line k
