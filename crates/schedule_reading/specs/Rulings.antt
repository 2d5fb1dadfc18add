-- What is said of one line, beside the state of the lawful reading.
use Rattle.std.specs.Prelude.{◌≡◌, ℕ, ◌<◌, ◌≤◌, false, true, List, Option, None, Some, Result, Ok, Err}
use Rattle.cap_io.specs.Faults.{Rose}
use Rattle.c_mean.specs.World as source
use Rattle.c_mean.specs.World.{begun}
use Rattle.choice_rules.specs.Choice.{IsLawful}
use Rattle.choice_rules.specs.Clock.{is_due, IsChoicePoint}
use Rattle.choice_rules.specs.Seen.{Waiter}
use Rattle.choice_rules.specs.Stops.{IsBadTrace, IsDone, IsIdle}
use Rattle.event_trace.specs.declared.events.Event.{Event}
use Rattle.lawful_reading.specs.Choice.{chosen_from}
use Rattle.lawful_reading.specs.Given.{Given}
use Rattle.lawful_reading.specs.Reading.{IsAllowed, IsBeyond}
use Rattle.lawful_reading.specs.State.{State, seen_of}
use Rattle.schedule_log.specs.declared.entries.Entry.{Entry}
use Rattle.schedule_reading.specs.declared.points.Point.{Point}
use Rattle.schedule_reading.specs.declared.points.Point.TheVariants as point
use Rattle.schedule_reading.specs.declared.reading.Next.{Next}
use Rattle.schedule_reading.specs.declared.reading.Next.TheVariants as next
use Rattle.schedule_reading.specs.declared.reading.Under.{Under}
use Rattle.schedule_reading.specs.declared.rulings.Failure.{Failure}
use Rattle.schedule_reading.specs.declared.rulings.Ruling.{Ruling}
use Rattle.schedule_reading.specs.declared.rulings.Ruling.TheVariants as ruling
use Rattle.schedule_reading.specs.Kept.{Core, Kept}
use Rattle.schedule_reading.specs.Stands.{IsLooked, IsTold, Stands, StandsAt, StandsWithin}
use Rattle.schedule_reading.specs.Told.{any_ready_in}

-- ---- faults of the trace

-- if a read failed, the count rose or is at its maximum; otherwise it stays the same
abbrev pub CountsReads : {V : Type 0} → Result V Failure → ℕ → ℕ → Type 0
CountsReads (Ok _) old new = new ≡ old
CountsReads (Err Failure.Read) old new = Rose old new
CountsReads (Err Failure.Memory) old new = new ≡ old

-- ---- a line

-- the line is allowed, within the limit on steps, and leads to a state that corresponds to what is kept
pub record Allows (g : Given) (state : State) (old : Kept) (entry : Entry) (told : Option (List ℕ)) (new : Kept) (told' : Option (List ℕ)) : Type 0 where
  pub after : State
  pub allowed : IsTold state old told → IsAllowed g state entry after
  pub within : after.steps ≤ g.most_steps
  pub stands : Stands g after new
  pub trace : IsTold state old told → IsTold after new told'

-- the line isn't allowed, and that doesn't depend on the limit on steps
pub record Refuses (g : Given) (state : State) (entry : Entry) : Type 0 where
  pub refused : (after : State) → IsAllowed g state entry after → ⊥
  pub enough : IsBeyond g state entry → ⊥

abbrev pub Rules : Given → State → Kept → Entry → Option (List ℕ) → Kept → Option (List ℕ) → Result Ruling Failure → Type 0
Rules g state old entry told new told' (Ok ruling.Allowed) = Allows g state old entry told new told'
Rules g state old entry told new told' (Ok ruling.Refused) = IsTold state old told → Refuses g state entry
Rules g state old entry told new told' (Ok ruling.OutOfSteps) = IsBeyond g state entry
Rules g state old entry told new told' (Err failure) = Unit {0}

-- ---- a choice point

-- the next line of the trace, if it has been examined and isn't refused
abbrev pub Knows : Next → Option Event → Type 0
Knows (next.Event event) (Some other) = event ≡ other
Knows next.Over None = Unit {0}
Knows looked known = ⊥

-- what is required, with the clock advanced if it has to be
pub record Goes (g : Given) (state : State) (old : Kept) (told : Option (List ℕ)) (known : Option Event) (k : Kept) (told' : Option (List ℕ)) : Type 0 where
  pub stands : StandsAt g state k.core.threads.waits.clock k.core
  pub looked : IsLooked k.reader k.next
  pub known_is : Knows k.next known
  pub point : IsTold state old told → IsChoicePoint g.policy (seen_of state) known k.core.threads.waits.clock
  pub trace : IsTold state old told → IsTold state k told'

-- the next event is due
pub record Comes (g : Given) (state : State) (old : Kept) (told : Option (List ℕ)) (event : Event) (k : Kept) (told' : Option (List ℕ)) : Type 0 where
  pub goes : Goes g state old told (Some event) k told'
  pub due : event.time ≤ k.core.threads.waits.clock

-- a thread has to be chosen: no event is due, and some thread is ready
pub record ComesToChoice (g : Given) (state : State) (old : Kept) (told : Option (List ℕ)) (k : Kept) (told' : Option (List ℕ)) : Type 0 where
  pub known : Option Event
  pub goes : Goes g state old told known k told'
  pub not_due : is_due known k.core.threads.waits.clock ≡ false
  pub ready : any_ready_in k.core.threads ≡ true

-- the reading stops here, in the same state
pub record Halts (g : Given) (state : State) (old : Kept) (told : Option (List ℕ)) (k : Kept) (told' : Option (List ℕ)) (Stops : Type 0) : Type 0 where
  pub stands : StandsAt g state state.clock k.core
  pub looked : IsLooked k.reader k.next
  pub stops : IsTold state old told → Stops
  pub trace : IsTold state old told → IsTold state k told'

abbrev pub IsPoint : Given → State → (old : Kept) (told : Option (List ℕ)) (new : Kept) (told' : Option (List ℕ)) → Point → Type 0
IsPoint g state old told k told' point.Done = Halts g state old told k told' (IsDone (seen_of state))
IsPoint g state old told k told' point.Idle = Halts g state old told k told' (IsIdle g.policy (seen_of state))
IsPoint g state old told k told' (point.BadTrace line) = Halts g state old told k told' (IsBadTrace (seen_of state) line)
IsPoint g state old told k told' (point.Comes event) = Comes g state old told event k told'
IsPoint g state old told k told' point.Choice = ComesToChoice g state old told k told'

-- it corresponds to some state between segments
abbrev pub StandsBetween : Given → State → Kept → Type 0
StandsBetween g state k = StandsAt g state state.clock k.core × IsLooked k.reader k.next

abbrev pub StandsBetweenSomehow : Kept → Type 0
StandsBetweenSomehow k = (g : Given) × (state : State) × StandsBetween g state k

-- and its next line is known not to be refused, while some thread lives
abbrev pub GoesOnFrom : Given → State → Kept → Option Event → Type 0
GoesOnFrom g state k known = StandsBetween g state k × Knows k.next known × (0 < k.core.threads.live)

abbrev pub GoesOnSomehow : Kept → Option Event → Type 0
GoesOnSomehow k known = (g : Given) × (state : State) × GoesOnFrom g state k known

-- a thread has to be chosen
pub record Chooses (g : Given) (state : State) (k : Core) : Type 0 where
  pub stands : StandsAt g state k.threads.waits.clock k
  pub ready : any_ready_in k.threads ≡ true

abbrev pub ChoosesSomehow : Core → Type 0
ChoosesSomehow k = (g : Given) × (state : State) × Chooses g state k

-- the lawful choice is this thread at this node, and its segment begins
pub record Chosen (g : Given) (state : State) (old : Core) (thread node : ℕ) (k : Core) (under : Under) : Type 0 where
  pub chosen : Waiter
  pub lawful : IsLawful g.policy (seen_of state) old.threads.waits.clock chosen
  pub thread_is : thread ≡ chosen.thread
  pub node_is : node ≡ chosen.node
  pub here : source.Segment
  pub begins : begun g.program g.policy.caps state.source thread ≡ Some here
  pub stands : StandsWithin g (chosen_from state old.threads.waits.clock chosen here) k under

-- the lawful choice is another one
abbrev pub ChosenOther : Given → State → Core → ℕ → ℕ → Type 0
ChosenOther g state old thread node = (chosen : Waiter) → IsLawful g.policy (seen_of state) old.threads.waits.clock chosen → thread ≡ chosen.thread → node ≡ chosen.node → ⊥

abbrev pub RulesChoice : Given → State → Core → ℕ → ℕ → Core → Option Under → Result Ruling Failure → Type 0
RulesChoice g state old thread node k (Some under) (Ok ruling.Allowed) = Chosen g state old thread node k under
RulesChoice g state old thread node k None (Ok ruling.Allowed) = ⊥
RulesChoice g state old thread node k under (Ok ruling.Refused) = ChosenOther g state old thread node
RulesChoice g state old thread node k under (Ok ruling.OutOfSteps) = ⊥
RulesChoice g state old thread node k under (Err failure) = failure ≡ Failure.Memory

-- only the clock has advanced
abbrev pub KeepsThreads : Kept → Kept → Type 0
KeepsThreads old new = new ≡ record old { core = record old.core { threads = new.core.threads } }
