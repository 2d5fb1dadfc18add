-- A run, compared with the state of its log.
use Rattle.std.specs.Prelude.{◌≡◌, ◌≢◌, ℕ, ◌+◌, ◌≤◌, true, false, List, [], ◌++◌, length, IsSome, Option, None, Some}
use Rattle.blocking_graph.specs.Edges.{count_of}
use Rattle.blocking_graph.specs.Graph.{GraphState}
use Rattle.accepted_pairs.specs.Accepting.{accepted_tree}
use Rattle.certificate_rules.specs.Validity.{IsValid}
use Rattle.c_lower.specs.ProgramCode.{lowered}
use Rattle.c_tree.specs.WellScoped.{IsWellScoped}
use Rattle.event_trace.specs.declared.events.Event.{Event}
use Rattle.event_trace.specs.Lines.{FitsEvent}
use Rattle.event_trace.specs.Reader.{ReaderState}
use Rattle.choice_rules.specs.Choice.{is_open}
use Rattle.choice_rules.specs.Policy.{all_caps}
use Rattle.choice_rules.specs.Trace.{Trace, IsNext, behind}
use Rattle.choice_rules.specs.Seen.{Waiter, Past, uses_of}
use Rattle.choice_rules.specs.Clock.{is_due}
use Rattle.choice_rules.specs.Waiting.{IsPlaced}
use Rattle.lawful_log.specs.Good.{checked_of}
use Rattle.lawful_log.specs.Setup.{Setup, setting_of}
use Rattle.lawful_log.specs.State.{Segment, State, seen_of}
use Rattle.lawful_log.specs.Beside.{IsGraphOf, IsMonitorOf}
use Rattle.lawful_log.specs.Within.{IsBetween, IsWithin}
use Rattle.machine_world.specs.Threads.{World, thread_of, step}
use Rattle.machine_world.specs.WellFormed.{IsWellFormed}
use Rattle.resource_monitor.specs.Gate.{gate_after}
use Rattle.resource_monitor.specs.Monitor.{MonitorState, NoneAbove, SmallCaps}
use Rattle.resource_monitor.specs.Pressure.{pressures}
use Rattle.rule_state.specs.Rules.{noted_of}
use Rattle.rule_state.specs.declared.rules.RuleState.{RuleState}
use Rattle.scheduler.specs.declared.choices.Choice.{Choice}
use Rattle.run_course.specs.declared.course.Under.{Under}
use Rattle.run_course.specs.declared.looking.Next.{Next}
use Rattle.lawful_log.specs.Passes.{StartedBy}
use Rattle.thread_core.specs.Ready.{any_ready_in}
use Rattle.thread_core.specs.Turns.{Tells}
use Rattle.thread_core.specs.declared.turns.Turn.{Turn}
use Rattle.thread_core.specs.Worlds.{Held}
use Rattle.machine_meaning.specs.Reached.{IsReached, StepReaches}
use Rattle.machine_meaning.specs.UnderWay.{IsSettled}
use Rattle.run_course.specs.Kept.{Kept, known}
use Rattle.run_course.specs.Rules.{AreKept, AreKeptBeside, AreTold, HasAccounts}
use Rattle.run_course.specs.Times.{IsTimely}
use Rattle.run_course.specs.Rest.{Rest, Unasked, Told, Made}

-- the world is one of this program, image, certificate and policy, and its times are possible
pub record IsOf (g : Setup) (held : Held) : Type 0 where
  pub program : accepted_tree held.accepted ≡ g.program
  pub image : held.accepted.image ≡ g.image
  pub certificate : held.accepted.certificate ≡ g.certificate
  pub setting : held.setting ≡ setting_of g
  pub chunks : held.machine.areas.pool.count ≡ g.policy.chunks + g.policy.extra
  -- each cap is at most 1,000,000
  pub small : SmallCaps (all_caps g.policy)
  pub scoped : IsWellScoped g.program
  pub valid : IsValid (lowered g.program) g.image g.certificate
  pub timely : IsTimely held.machine

-- these bytes are the rest of the trace after the lines that the reader returned, preceded by an event that was
-- examined
abbrev pub IsTraceIn : Trace → ReaderState → Next → List ℕ → Type 0
IsTraceIn trace reader Next.Unread bytes = trace ≡ record { bytes = bytes; lines = reader.lines; last = reader.last }
IsTraceIn trace reader (Next.Event event) bytes =
    IsNext trace (Some event) × (behind trace event ≡ record { bytes = bytes; lines = reader.lines; last = reader.last })
IsTraceIn trace reader Next.Over bytes = IsNext trace None

-- if the source exposes its bytes, they are what the reader holds, followed by what the source has left
abbrev pub IsTraceOf : Trace → ReaderState → Next → Rest → Type 0
IsTraceOf trace reader next Unasked = Unit {0}
IsTraceOf trace reader next (Told left) = IsTraceIn trace reader next (reader.held ++ left)
IsTraceOf trace reader next (Made bytes) = IsTraceIn trace reader next bytes

abbrev pub FitsNext : Next → Type 0
FitsNext Next.Unread = Unit {0}
FitsNext (Next.Event event) = FitsEvent event
FitsNext Next.Over = Unit {0}

pub record IsRead (trace : Trace) (reader : ReaderState) (next : Next) (left : Rest) : Type 0 where
  pub trace_is : IsTraceOf trace reader next left
  pub unrefused : reader.refused ≡ None
  pub fits : FitsNext next

-- the data on which choices depend; and there are at most this many choices, records and keys
pub record HasPast (g : Setup) (past : Past) (rule : RuleState) (graph : GraphState) (monitor : MonitorState) (choices most : ℕ) : Type 0 where
  pub accounts : HasAccounts g.policy.rule rule past
  pub graph_is : IsGraphOf graph past
  pub monitor_is : IsMonitorOf g monitor
  pub taken : noted_of rule ≡ length past.taken
  pub noted : noted_of rule ≤ choices
  pub records : count_of graph.edges ≤ most
  pub keys : length graph.keys ≤ most

-- ---- at a choice point

pub record StandsBetween (g : Setup) (state : State) (k : Kept) (held : Held) (left : Rest) : Type 0 where
  pub of : IsOf g held
  pub going : held.stopped ≡ None
  pub between : IsBetween g state (known k.next) held.machine
  -- the clock advances only while a thread lives
  pub ended : held.machine.threads ≡ [] → held.machine.clock ≡ state.machine.clock
  pub settled : IsSettled (checked_of g) held.machine
  pub kept : AreKept held.places k.rule state.waiting
  pub needed : AreTold held.machine k.rule
  pub past : HasPast g state.past k.rule k.graph k.monitor held.machine.cost held.machine.cost
  pub gate : gate_after g.policy.high g.policy.low k.monitor.is_open
      (pressures g.policy.curves (uses_of (seen_of state)) (all_caps g.policy)) ≡ is_open g.policy state.past
  pub read : IsRead state.trace k.reader k.next left

-- ---- within a segment: what its thread did last isn't written yet

pub record StandsWithin (g : Setup) (state : State) (k : Kept) (held : Held) (left : Rest) (under : Under) : Type 0 where
  pub of : IsOf g held
  pub segment : Segment
  pub waiting : List Waiter
  -- the machine at the step of the turn
  pub here : World
  pub within : IsWithin g state segment held.begun here waiting
  pub tells : Tells (step (setting_of g) here) under.turn segment.thread here held
  pub reached : IsReached (checked_of g) g.program (setting_of g) state.source segment.thread segment.puts here
  pub thread_is : under.choice.thread.number ≡ segment.thread
  pub node_is : under.choice.node ≡ segment.node
  pub before_is : under.before ≡ segment.uses
  pub within_caps : NoneAbove under.before (all_caps g.policy)
  pub placed : IsSome (thread_of held.machine under.choice.thread.number) → IsPlaced held.places under.choice.thread
  pub kept : AreKeptBeside held.places k.rule waiting under.choice.thread
  pub needed : AreTold here k.rule
  pub started : StartedBy state.past.taken (length state.source.threads)
  pub past : HasPast g state.past k.rule k.graph k.monitor (held.begun + 1) held.begun
  pub gate : k.monitor.is_open ≡ is_open g.policy state.past
  pub read : IsRead state.trace k.reader k.next left

abbrev pub StandsBy : Setup → State → Kept → Held → Rest → Option Under → Type 0
StandsBy g state k held left None = StandsBetween g state k held left
StandsBy g state k held left (Some under) = StandsWithin g state k held left under

abbrev pub Stands : Setup → State → Kept → Held → Rest → Type 0
Stands g state k held left = StandsBy g state k held left k.under

-- for some log of some run
abbrev pub StandsSomehow : Kept → Held → Type 0
StandsSomehow k held = (g : Setup) × (state : State) × (left : Rest) × Stands g state k held left

abbrev pub SegmentStands : Kept → Held → Under → Type 0
SegmentStands k held under = (g : Setup) × (state : State) × (left : Rest) × StandsWithin g state k held left under

-- ---- where a segment continues: what its thread did last has been written

pub record StandsInside (g : Setup) (state : State) (k : Kept) (held : Held) (left : Rest) (choice : Choice) (before : List ℕ) : Type 0 where
  pub of : IsOf g held
  pub going : held.stopped ≡ None
  pub segment : Segment
  pub waiting : List Waiter
  pub within : IsWithin g state segment held.begun held.machine waiting
  pub reached : IsReached (checked_of g) g.program (setting_of g) state.source segment.thread segment.puts held.machine
  pub thread_is : choice.thread.number ≡ segment.thread
  pub node_is : choice.node ≡ segment.node
  pub before_is : before ≡ segment.uses
  pub within_caps : NoneAbove before (all_caps g.policy)
  pub placed : IsSome (thread_of held.machine choice.thread.number) → IsPlaced held.places choice.thread
  pub kept : AreKeptBeside held.places k.rule waiting choice.thread
  pub needed : AreTold held.machine k.rule
  pub started : StartedBy state.past.taken (length state.source.threads)
  pub past : HasPast g state.past k.rule k.graph k.monitor (held.begun + 1) held.begun
  pub gate : k.monitor.is_open ≡ is_open g.policy state.past
  pub read : IsRead state.trace k.reader k.next left

-- how the source's run and the machine's step correspond
abbrev pub StepsAsSource : Setup → State → ℕ → Type 0
StepsAsSource g state number =
    (puts : List ℕ) (w : World) → IsWellFormed (checked_of g) (setting_of g) w → IsReached (checked_of g) g.program (setting_of g) state.source number puts w →
    StepReaches (checked_of g) g.program (setting_of g) state.source number puts (step (setting_of g) w)

-- ---- the premises of a part of a step

-- a segment is in progress, and its thread did this
abbrev pub HasTurn : Kept → Held → Under → Turn → Type 0
HasTurn k held under turn = (g : Setup) × (state : State) × (left : Rest) × StandsWithin g state k held left under × (under.turn ≡ turn)

-- a choice point continues: some thread is live, and the next line of the trace is known
pub record IsAtPoint (g : Setup) (state : State) (k : Kept) (held : Held) (left : Rest) (next : Option Event) : Type 0 where
  pub stands : StandsBetween g state k held left
  pub between : k.under ≡ None
  pub known_is : known k.next ≡ Some next
  pub live : held.machine.threads ≢ []

abbrev pub PointStands : Kept → Held → Option Event → Type 0
PointStands k held next = (g : Setup) × (state : State) × (left : Rest) × IsAtPoint g state k held left next

-- a thread has to be chosen: no event is due, and some thread is ready
pub record IsAtChoice (g : Setup) (state : State) (k : Kept) (held : Held) (left : Rest) (next : Option Event) : Type 0 where
  pub point : IsAtPoint g state k held left next
  pub not_due : is_due next held.machine.clock ≡ false
  pub ready : any_ready_in held ≡ true

abbrev pub ChoiceStands : Kept → Held → Type 0
ChoiceStands k held = (g : Setup) × (state : State) × (left : Rest) × (next : Option Event) × IsAtChoice g state k held left next
