-- What a reading keeps, compared with the state of the lawful reading.
use Rattle.std.specs.Prelude.{◌≡◌, ◌≢◌, ℕ, ◌+◌, ◌-◌, ◌<◌, ◌≤◌, IsTrue, List, ◌++◌, length, drop, map, option_map, option_to_list, Option, None, Some, IsSome, IfSome, count_by, slice_get}
use Rattle.std.specs.List.{AllByRecursion}
use Rattle.blocking_graph.specs.Edges.{count_of, edges_of}
use Rattle.cap_word.specs.declared.threads.ThreadId.{ThreadId}
use Rattle.c_mean.specs.ModelledCalls.{Exchange}
use Rattle.c_mean.specs.World as source
use Rattle.c_tree.specs.Trees.{ProgramTree}
use Rattle.c_tree.specs.WellScoped.{signature_of}
use Rattle.cap_word.specs.Signatures.{signature_at}
use Rattle.choice_rules.specs.Choice.{is_open}
use Rattle.choice_rules.specs.Clock.{latest}
use Rattle.choice_rules.specs.EdgeLines.{edge_entry}
use Rattle.choice_rules.specs.Policy.{all_caps, by_graph}
use Rattle.choice_rules.specs.Seen.{Waiter, Past, last_choice, newcomers, uses_of}
use Rattle.choice_rules.specs.Trace.{Trace, IsNext, IsRefused, behind}
use Rattle.choice_rules.specs.Waiting.{IsOnce, waits, AreQueued}
use Rattle.event_trace.specs.Lines.{FitsEvent}
use Rattle.event_trace.specs.Reader.{ReaderState}
use Rattle.lawful_reading.specs.Given.{Given, chunks_of}
use Rattle.lawful_reading.specs.Happenings.{lives}
use Rattle.lawful_reading.specs.State as reading
use Rattle.lawful_reading.specs.State.{Segment, State, seen_of}
use Rattle.resource_monitor.specs.Gate.{gate_after}
use Rattle.resource_monitor.specs.Monitor.{NoneAbove, SmallCaps}
use Rattle.resource_monitor.specs.Pressure.{pressures}
use Rattle.scheduler.specs.State.{SchedulerState, AreKnown, last_of}
use Rattle.slab.specs.Slab.{Slab, get}
use Rattle.source_runs.specs.Layouts.{IsReady, tree_of}
use Rattle.source_runs.specs.Threads.{IsFull, IsThread, globals_of, running_of, waiting_of}
use Rattle.thread_waits.specs.Counted.{wake_of}
use Rattle.thread_waits.specs.declared.waits.Wait.{Wait}
use Rattle.schedule_reading.specs.declared.reading.End.{End}
use Rattle.schedule_reading.specs.declared.reading.End.TheVariants as end
use Rattle.schedule_reading.specs.declared.reading.Next.{Next}
use Rattle.schedule_reading.specs.declared.reading.Next.TheVariants as next
use Rattle.schedule_reading.specs.declared.reading.Under.{Under}
use Rattle.schedule_reading.specs.declared.threads.Rest.{Rest}
use Rattle.schedule_reading.specs.declared.threads.Rest.TheVariants as rest
use Rattle.schedule_reading.specs.declared.threads.Slot.{Slot}
use Rattle.schedule_reading.specs.Kept.{Core, Kept}
use Rattle.schedule_reading.specs.Told.{ThreadsState, VouchesIn, WaitsAs, at_place}

-- ---- what stays the same

-- program, limits and monitor are those against which the log is read
pub record IsOf (g : Given) (k : Core) : Type 0 where
  pub program : tree_of k.interpreter ≡ g.program
  pub ready : IsReady k.interpreter
  pub chunks : k.policy.chunks ≡ chunks_of g
  pub extra : g.policy.extra ≡ 0
  pub fuel : k.policy.fuel ≡ g.policy.fuel
  pub caps : k.policy.caps ≡ g.policy.caps
  pub exchange_caps : k.threads.exchange.caps ≡ g.policy.caps
  pub backlog : k.threads.exchange.backlog ≡ g.policy.backlog
  pub curves : k.monitor.curves ≡ g.policy.curves
  pub monitor_caps : k.monitor.caps ≡ all_caps g.policy
  pub high : k.monitor.high ≡ g.policy.high
  pub low : k.monitor.low ≡ g.policy.low
  pub rule : g.policy.rule ≡ by_graph
  pub small : SmallCaps (all_caps g.policy)
  pub cap_count : length g.policy.caps ≡ 8
  pub most_fuel : g.policy.fuel ≤ 1000000000
  pub most_steps : g.most_steps ≤ 1000000000

-- ---- numbers

-- the clock isn't later, nor does a thread wake later that sleeps
pub record IsTimely (clock : ℕ) (places : List (Option Wait)) (cost : ℕ) : Type 0 where
  pub clock_is : clock ≤ latest cost
  pub sleepers : (place : ℕ) → IfSome (wake_of (at_place places place)) (λ time. time ≤ latest cost)

-- the printed costs and free chunks, and the remaining steps; each start of a thread was a step
pub record IsCounted (g : Given) (state : State) (k : Core) : Type 0 where
  pub cost : k.cost ≡ state.cost
  pub most_cost : k.cost ≤ g.policy.fuel
  pub free : k.free ≤ chunks_of g
  pub held : chunks_of g - k.free ≡ state.held
  pub left : k.left + state.steps ≡ g.most_steps
  pub starts : k.threads.next + k.left ≤ 1 + g.most_steps

-- ---- threads

-- the rest of a live thread, as in the source world; a running thread is kept there as it was when it was chosen
abbrev pub RestsAs : ProgramTree → Rest → source.Rest → Type 0
RestsAs tree (rest.Fresh function argument) there = there ≡ source.Fresh function (option_to_list argument)
RestsAs tree (rest.Blocked block thread) there = there ≡ source.Blocked block (waiting_of tree thread)
RestsAs tree rest.Away there = IsTrue (lives there)

-- it can continue, whatever the globals are then
abbrev pub CanGo : ProgramTree → Rest → Type 0
CanGo tree (rest.Fresh function argument) =
    (function < length tree.functions) × ((signature_at (map signature_of tree.functions) function).params ≡ length (option_to_list argument))
CanGo tree (rest.Blocked block thread) = (words : List ℕ) → IsFull tree words → IsThread tree thread words
CanGo tree rest.Away = Unit {0}

-- the thread at a place
pub record IsSlot (tree : ProgramTree) (places : List (Option Wait)) (rests : List source.Rest) (place : ℕ) (slot : Slot) : Type 0 where
  pub there : source.Rest
  pub is_there : slice_get rests slot.number ≡ Some there
  pub rests_as : RestsAs tree slot.rest there
  pub can_go : CanGo tree slot.rest
  pub waits : WaitsAs slot.rest (at_place places place)
  pub in_places : place < length places

-- a thread of that number is at a place
pub record HasSlot (slots : Slab Slot) (number : ℕ) : Type 0 where
  pub place : ℕ
  pub slot : Slot
  pub there : get slots place ≡ Some slot
  pub number_is : slot.number ≡ number

-- if the thread is blocked, it is so since that clock
abbrev pub IsSince : ℕ → Option Wait → Type 0
IsSince since None = ⊥
IsSince since (Some Wait.Fresh) = Unit {0}
IsSince since (Some (Wait.At block clock)) = clock ≡ since

-- a thread that waits for a choice is at a place, and waits there
pub record IsWaiter (slots : Slab Slot) (places : List (Option Wait)) (waiter : Waiter) : Type 0 where
  pub has : HasSlot slots waiter.thread
  pub since : IsSince waiter.since (at_place places has.place)

-- the threads are at their places as in the source world, each at one place, and exactly those with a wait wait for a
-- choice
pub record AreThreads (tree : ProgramTree) (slots : Slab Slot) (places : List (Option Wait)) (rests : List source.Rest) (waiting : List Waiter) : Type 0 where
  pub each : (place : ℕ) (slot : Slot) → get slots place ≡ Some slot → IsSlot tree places rests place slot
  pub one : (place other : ℕ) (slot another : Slot) → get slots place ≡ Some slot → get slots other ≡ Some another → slot.number ≡ another.number → place ≡ other
  pub vacant : (place : ℕ) → get slots place ≡ None → at_place places place ≡ None
  pub found : (number : ℕ) (there : source.Rest) → slice_get rests number ≡ Some there → IsTrue (lives there) → HasSlot slots number
  pub waiters : AllByRecursion (IsWaiter slots places) waiting
  pub once : IsOnce waiting
  pub all : (place : ℕ) (slot : Slot) → get slots place ≡ Some slot → IsSome (at_place places place) → IsTrue (waits waiting slot.number)

-- and so are the queues, the uses of the eight resources, the number of threads and the number of live ones
pub record AreLive (tree : ProgramTree) (threads : ThreadsState) (rests : List source.Rest) (exchange : Exchange) (waiting : List Waiter) : Type 0 where
  pub exchange_is : threads.exchange.exchange ≡ exchange
  pub uses : length exchange.uses ≡ 8
  pub count : threads.next ≡ length rests
  pub live : threads.live ≡ count_by lives rests
  pub are : AreThreads tree threads.slots threads.waits.places rests waiting

-- the number of the thread at each place
abbrev pub numbers_of : Slab Slot → List (Option ℕ)
numbers_of slots = map (option_map (λ slot. slot.number)) slots.slots

-- the scheduler has the waiting threads in its queues, with what they wait for
pub record IsScheduled (slots : Slab Slot) (places : List (Option Wait)) (scheduler : SchedulerState) (waiting : List Waiter) : Type 0 where
  pub queued : AreQueued (numbers_of slots) scheduler waiting
  pub known : AreKnown (VouchesIn slots places) scheduler

-- ---- the past

-- the data on which choices depend; and there are at most this many choices, records and keys
pub record HasPast (past : Past) (k : Core) (choices most : ℕ) : Type 0 where
  pub lasts : (node : ℕ) → last_of k.scheduler node ≡ last_choice past.taken node
  pub taken : k.scheduler.noted ≡ length past.taken
  pub noted : k.scheduler.noted ≤ choices
  pub graph_keys : k.graph.keys ≡ past.keys
  pub edges : k.graph.edges ≡ edges_of past.records
  pub records : count_of k.graph.edges ≤ most
  pub keys : length k.graph.keys ≤ most

-- ---- the trace

-- these bytes are the rest of the trace after the lines that the reader returned, preceded by an event that was
-- examined
abbrev pub IsTraceIn : Trace → ReaderState → Next → List ℕ → Type 0
IsTraceIn trace reader next.Unread bytes = trace ≡ record { bytes = bytes; lines = reader.lines; last = reader.last }
IsTraceIn trace reader (next.Event event) bytes =
    IsNext trace (Some event) × (behind trace event ≡ record { bytes = bytes; lines = reader.lines; last = reader.last })
IsTraceIn trace reader next.Over bytes = IsNext trace None
IsTraceIn trace reader (next.Refused line) bytes = IsRefused trace line

-- if the source exposes its bytes, they are what the reader holds, followed by what the source has left
abbrev pub IsTraceOf : Trace → ReaderState → Next → Option (List ℕ) → Type 0
IsTraceOf trace reader looked None = ⊥
IsTraceOf trace reader looked (Some left) = IsTraceIn trace reader looked (reader.held ++ left)

-- an event that was examined is in its ranges; a reader that returned a refusal isn't called again
abbrev pub IsLooked : ReaderState → Next → Type 0
IsLooked reader next.Unread = reader.refused ≡ None
IsLooked reader (next.Event event) = FitsEvent event × (reader.refused ≡ None)
IsLooked reader next.Over = Unit {0}
IsLooked reader (next.Refused line) = Unit {0}

-- the trace is exposed, and what is kept of it is the rest in the state
abbrev pub IsTold : State → Kept → Option (List ℕ) → Type 0
IsTold state k left = IsTraceOf state.trace k.reader k.next left

-- ---- between segments: the clock may have advanced

pub record StandsAt (g : Given) (state : State) (clock : ℕ) (k : Core) : Type 0 where
  pub of : IsOf g k
  pub counted : IsCounted g state k
  pub between : state.segment ≡ None
  pub clock_is : k.threads.waits.clock ≡ clock
  pub later : state.clock ≤ clock
  pub threads : AreLive g.program k.threads state.source.threads state.source.exchange state.waiting
  pub resting : (place : ℕ) (slot : Slot) → get k.threads.slots place ≡ Some slot → IsSome (at_place k.threads.waits.places place)
  pub globals : globals_of g.program k.words ≡ state.source.globals
  pub full : IsFull g.program k.words
  pub scheduled : IsScheduled k.threads.slots k.threads.waits.places k.scheduler state.waiting
  pub past : HasPast state.past k k.cost k.cost
  pub gate : gate_after g.policy.high g.policy.low k.monitor.is_open (pressures g.policy.curves (uses_of (seen_of state)) (all_caps g.policy)) ≡ is_open g.policy state.past
  pub timely : IsTimely k.threads.waits.clock k.threads.waits.places k.cost

-- ---- within a segment

-- the waiting threads while a thread runs, including those that it has started
abbrev pub waiting_with : State → List source.Rest → List Waiter
waiting_with state rests = state.waiting ++ newcomers state.source (length rests)

-- the threads other than the running one, which is at its place, are these of a source world, with these queues and
-- uses
pub record AreBeside (g : Given) (state : State) (rests : List source.Rest) (exchange : Exchange) (number : ℕ) (threads : ThreadsState) (scheduler : SchedulerState) (running : ThreadId) : Type 0 where
  pub are : AreLive g.program threads rests exchange (waiting_with state rests)
  pub started : length state.source.threads ≤ length rests
  pub away : Slot
  pub away_there : get threads.slots running.slot ≡ Some away
  pub away_number : away.number ≡ number
  pub away_waits : at_place threads.waits.places running.slot ≡ None
  pub resting : (place : ℕ) (slot : Slot) → place ≢ running.slot → get threads.slots place ≡ Some slot → IsSome (at_place threads.waits.places place)
  pub number_is : running.number ≡ number
  pub scheduled : IsScheduled threads.slots threads.waits.places scheduler (waiting_with state rests)

-- the source's run of the running thread has reached this state
pub record IsRunning (g : Given) (state : State) (here : source.Segment) (k : Core) (under : Under) : Type 0 where
  pub beside : AreBeside g state here.world.threads here.world.exchange here.number k.threads k.scheduler under.choice.thread
  pub thread : IsThread g.program under.thread k.words
  pub running : running_of g.program under.thread k.words ≡ here.running

pub record StandsWithin (g : Given) (state : State) (k : Core) (under : Under) : Type 0 where
  pub of : IsOf g k
  pub counted : IsCounted g state k
  pub segment : Segment
  pub under_way : state.segment ≡ Some segment
  pub clock_is : k.threads.waits.clock ≡ state.clock
  pub runs : IsRunning g state segment.here k under
  pub node_is : under.choice.node ≡ segment.node
  pub before_is : under.before ≡ segment.uses
  pub within_caps : NoneAbove under.before (all_caps g.policy)
  pub past : HasPast state.past k (k.cost + 1) k.cost
  pub gate : k.monitor.is_open ≡ is_open g.policy state.past
  pub timely : IsTimely k.threads.waits.clock k.threads.waits.places k.cost

-- ---- the whole

abbrev pub StandsBy : Given → State → Core → Option Under → Type 0
StandsBy g state k None = StandsAt g state state.clock k
StandsBy g state k (Some under) = StandsWithin g state k under

-- the end of a log: it hasn't begun, or these edges are yet to be read
abbrev pub IsEnd : Given → State → End → Type 0
IsEnd g state end.NotYet = state.end ≡ reading.NotYet
IsEnd g state (end.Edges edges read) =
    (state.end ≡ reading.Edges (map (edge_entry g.policy.caps) (drop read edges.items))) × (read ≤ length edges.items)
IsEnd g state end.Stopped = state.end ≡ reading.Stopped

-- after the stop the only condition is that no segment is in progress
abbrev pub StandsUnless : Given → State → Kept → End → Type 0
StandsUnless g state k end.NotYet = StandsBy g state k.core k.under × IsLooked k.reader k.next
StandsUnless g state k (end.Edges edges read) = StandsBy g state k.core k.under × IsLooked k.reader k.next
StandsUnless g state k end.Stopped = state.segment ≡ None

pub record Stands (g : Given) (state : State) (k : Kept) : Type 0 where
  pub end_is : IsEnd g state k.end
  pub stands : StandsUnless g state k k.end

-- it corresponds to some state
abbrev pub StandsSomehow : Kept → Type 0
StandsSomehow k = (g : Given) × (state : State) × Stands g state k
