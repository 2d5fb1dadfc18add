-- What the calls under `begin` and `proceed` do, over the state of a world.
use Rattle.std.specs.Prelude.{◌≡◌, ℕ, ◌<◌, ◌≤◌, List, Option, Some, None, option_map}
use Rattle.slab.specs.Slab.{get}
use Rattle.cap_word.specs.Calls.{Blocking}
use Rattle.cap_word.specs.Runs.{Stops}
use Rattle.cap_word.specs.declared.threads.ThreadId.{ThreadId}
use Rattle.accepted_pairs.specs.Acceptance.{Acceptance}
use Rattle.machine_world.specs.Local.{Local, Calls, Trapped, NoRoom, local_step}
use Rattle.machine_world.specs.Places.{Checked}
use Rattle.machine_world.specs.Threads as machine
use Rattle.machine_world.specs.Threads.{World, Move, step}
use Rattle.segment_run.specs.Contexts.{checked_of, code_of, local_of, IsReady}
use Rattle.segment_run.specs.Segments.{IsAtModel, IsAtAsk}
use Rattle.segment_run.specs.declared.segments.Segment.{Segment}
use Rattle.segment_run.specs.declared.segments.Segment.TheVariants as answer
use Rattle.segment_laws.specs.Silent.{GoesOn}
use Rattle.thread_core.specs.Kept.{IsKept}
use Rattle.thread_core.specs.States.{number_of, machine_of, setting_of, numbers_of}
use Rattle.thread_core.specs.Turns.{Tells}
use Rattle.thread_core.specs.Worlds.{Held, KeepsPlaces}
use Rattle.thread_core.specs.declared.records.Record.{Record}
use Rattle.thread_core.specs.declared.state.State.{State}
use Rattle.thread_core.specs.declared.turns.Turn.{Turn}

-- a state as contracts see it
abbrev pub held_in : Acceptance → ℕ → State → Held
held_in accepted most st = record {
  accepted = accepted;
  setting = setting_of accepted most st;
  machine = machine_of most st;
  places = numbers_of st;
  begun = st.begun;
  stopped = st.stopped;
}

-- a segment of the thread is in progress
pub record Runs (accepted : Acceptance) (most : ℕ) (st : State) (thread : ThreadId) : Type 0 where
  pub kept : IsKept accepted most st
  pub is : st.running ≡ Some thread
  pub going : st.stopped ≡ None

-- the thread of a record, over the areas, has this property
abbrev pub LocalIs : State → ThreadId → (Local → Type 0) → Type 0
LocalIs st thread P = (r : Record) → get st.records thread.slot ≡ Some r → P (local_of st.areas r.context)

-- and the thread rests just after its ECALL
pub record MayRun (accepted : Acceptance) (most : ℕ) (st : State) (thread : ThreadId) : Type 0 where
  pub runs : Runs accepted most st thread
  pub ready : LocalIs st thread (IsReady (checked_of accepted) (code_of accepted))

-- what stays the same during a segment
pub record KeepsRest (accepted : Acceptance) (most : ℕ) (old new : State) : Type 0 where
  pub caps : new.exchange.caps ≡ old.exchange.caps
  pub backlog : new.exchange.backlog ≡ old.exchange.backlog
  pub chunks : new.areas.pool.count ≡ old.areas.pool.count
  pub begun : new.begun ≡ old.begun

-- every place has the record of the same thread
abbrev pub SamePlaces : State → State → Type 0
SamePlaces old new = (place : ℕ) → option_map number_of (get new.records place) ≡ option_map number_of (get old.records place)

-- the same after a step without a turn; otherwise every thread that remains live has its record at the same place
abbrev pub PlacesIf : Acceptance → ℕ → State → Option Turn → State → Type 0
PlacesIf accepted most old None new = SamePlaces old new
PlacesIf accepted most old (Some turn) new = KeepsPlaces (held_in accepted most old) (held_in accepted most new)

-- ---- up to a call

-- the next step of a thread that has reached its call or can't continue
abbrev pub IsNext : Checked → List ℕ → Segment → Local → Type 0
IsNext c code (answer.Blocks block) l = IsAtModel c code l (Calls (Blocking block))
IsNext c code (answer.Asks ask) l = IsAtAsk c code l ask
IsNext c code answer.Ends l = ⊥
IsNext c code (answer.Traps kind) l = local_step code l ≡ Stops (Trapped kind)
IsNext c code answer.NoChunk l = local_step code l ≡ Stops NoRoom
IsNext c code answer.OutOfFuel l = Unit {0}

-- whether fuel is left at that point
abbrev pub HasFuel : Segment → ℕ → Type 0
HasFuel (answer.Blocks block) left = 0 < left
HasFuel (answer.Asks ask) left = 0 < left
HasFuel answer.Ends left = ⊥
HasFuel (answer.Traps kind) left = 0 < left
HasFuel answer.NoChunk left = 0 < left
HasFuel answer.OutOfFuel left = left ≡ 0

-- the thread has run without a turn up to its call, or to where it can't continue
pub record RanTo (accepted : Acceptance) (most : ℕ) (thread : ThreadId) (old : State) (segment : Segment) (new : State) : Type 0 where
  pub steps : ℕ
  pub goes_on : GoesOn (setting_of accepted most old) steps (machine_of most old) (machine_of most new)
  pub runs : Runs accepted most new thread
  pub rest : KeepsRest accepted most old new
  pub same : SamePlaces old new
  pub less : new.fuel.left ≤ old.fuel.left
  pub next : LocalIs new thread (IsNext (checked_of accepted) (code_of accepted) segment)
  pub fuel : HasFuel segment new.fuel.left

-- the thread has ended, and its record is removed
pub record RanOut (accepted : Acceptance) (most : ℕ) (thread : ThreadId) (old new : State) : Type 0 where
  pub steps : ℕ
  pub at : World
  pub goes_on : GoesOn (setting_of accepted most old) steps (machine_of most old) at
  pub ends : step (setting_of accepted most old) at ≡ machine.Ends (machine_of most new)
  pub kept : IsKept accepted most new
  pub is : new.running ≡ None
  pub going : new.stopped ≡ None
  pub rest : KeepsRest accepted most old new
  pub places : KeepsPlaces (held_in accepted most old) (held_in accepted most new)

abbrev pub Ran : Acceptance → ℕ → ThreadId → State → Segment → State → Type 0
Ran accepted most thread old answer.Ends new = RanOut accepted most thread old new
Ran accepted most thread old segment new = RanTo accepted most thread old segment new

-- ---- a call

-- what a step leads to: no turn, or this turn
abbrev pub TellsIf : Move → Option Turn → ℕ → World → Held → Type 0
TellsIf move None number at new = (move ≡ machine.Goes new.machine) × (new.stopped ≡ None)
TellsIf move (Some turn) number at new = Tells move turn number at new

-- the thread may run on after no turn, a value and a start; it is still running if the run has stopped, and no longer
-- if the segment has ended
abbrev pub GoesIf : Acceptance → ℕ → ThreadId → Option Turn → State → Type 0
GoesIf accepted most thread None new = MayRun accepted most new thread
GoesIf accepted most thread (Some (Turn.Out value)) new = MayRun accepted most new thread
GoesIf accepted most thread (Some (Turn.Spawned other)) new = MayRun accepted most new thread
GoesIf accepted most thread (Some (Turn.Blocked key cost)) new = new.running ≡ None
GoesIf accepted most thread (Some (Turn.Ended cost)) new = new.running ≡ None
GoesIf accepted most thread (Some (Turn.Cut stop cost)) new = new.running ≡ Some thread
GoesIf accepted most thread (Some Turn.Memory) new = new.running ≡ Some thread

-- the result of a call whose thread is at its ECALL
pub record Told (accepted : Acceptance) (most : ℕ) (thread : ThreadId) (old : State) (answered : Option Turn) (new : State) : Type 0 where
  pub kept : IsKept accepted most new
  pub rest : KeepsRest accepted most old new
  pub places : PlacesIf accepted most old answered new
  pub tells : TellsIf (step (setting_of accepted most old) (machine_of most old)) answered thread.number (machine_of most old) (held_in accepted most new)
  pub goes : GoesIf accepted most thread answered new

-- the result of running a thread up to its call and making the call
pub record OnTold (accepted : Acceptance) (most : ℕ) (thread : ThreadId) (old : State) (answered : Option Turn) (new : State) : Type 0 where
  pub steps : ℕ
  pub at : World
  pub goes_on : GoesOn (setting_of accepted most old) steps (machine_of most old) at
  pub kept : IsKept accepted most new
  pub rest : KeepsRest accepted most old new
  pub places : PlacesIf accepted most old answered new
  pub tells : TellsIf (step (setting_of accepted most old) at) answered thread.number at (held_in accepted most new)
  pub goes : GoesIf accepted most thread answered new
