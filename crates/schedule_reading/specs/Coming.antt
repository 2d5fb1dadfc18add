-- What the source's run of the running thread does next, compared with what is kept.
use Rattle.std.specs.Prelude.{◌≡◌, ℕ, suc, ◌+◌, ◌-◌, ◌^◌, ◌<◌, ◌≤◌, Bool, true, List, [], ◌∷◌, ◌++◌, length, Option, None, Some, Result, Ok, Err, slice_set}
use Rattle.cap_word.specs.Calls.{Immediate, most_threads}
use Rattle.cap_word.specs.Runs.{Goes, Stops}
use Rattle.cap_word.specs.declared.calls.Ask.{Ask}
use Rattle.cap_word.specs.declared.calls.Block.{Block}
use Rattle.cap_word.specs.declared.traps.TrapKind.{TrapKind}
use Rattle.c_mean.specs.Steps.{source_step}
use Rattle.c_mean.specs.World as source
use Rattle.c_mean.specs.World.{segment_step}
use Rattle.lawful_reading.specs.Given.{Given}
use Rattle.lawful_reading.specs.Happenings.{IsCrowdedNext, IsSilent, PutsNext, RestsNext, live_in}
use Rattle.lawful_reading.specs.State.{State}
use Rattle.scheduler.specs.State.{last_of}
use Rattle.source_runs.specs.Steps.{IsAskThere, asks}
use Rattle.source_runs.specs.Threads.{IsFull, IsThread, globals_of, waiting_of}
use Rattle.thread_exchange.specs.Exchanges.{row_of}
use Rattle.schedule_reading.specs.declared.events.Happening.{Happening}
use Rattle.schedule_reading.specs.declared.events.Happening.TheVariants as happening
use Rattle.schedule_reading.specs.declared.reading.Under.{Under}
use Rattle.schedule_reading.specs.declared.rulings.Failure.{Failure}
use Rattle.schedule_reading.specs.Kept.{Core}
use Rattle.schedule_reading.specs.Stands.{AreBeside, IsOf, IsRunning, IsTimely}

-- ---- what stays the same

-- a run of a thread changes only the globals, and the threads by those that it starts; each start was a step
pub record KeepsBut (old : Core) (old_under : Under) (old_left : ℕ) (new : Core) (under : Under) (left : ℕ) : Type 0 where
  pub choice : under.choice ≡ old_under.choice
  pub before : under.before ≡ old_under.before
  pub rest : new ≡ record old { words = new.words; threads = new.threads; scheduler = new.scheduler }
  pub clock : new.threads.waits.clock ≡ old.threads.waits.clock
  pub caps : new.threads.exchange.caps ≡ old.threads.exchange.caps
  pub backlog : new.threads.exchange.backlog ≡ old.threads.exchange.backlog
  pub lasts : (node : ℕ) → last_of new.scheduler node ≡ last_of old.scheduler node
  pub noted : new.scheduler.noted ≡ old.scheduler.noted
  pub timely : (cost : ℕ) → IsTimely old.threads.waits.clock old.threads.waits.places cost → IsTimely new.threads.waits.clock new.threads.waits.places cost
  pub starts : new.threads.next + left ≤ old.threads.next + old_left
  pub fewer : left ≤ old_left

-- ---- the premises of a run

-- the running thread may run, with room for the numbers of those that it may start
pub record MayRun (g : Given) (state : State) (here : source.Segment) (k : Core) (under : Under) (left : ℕ) : Type 0 where
  pub of : IsOf g k
  pub runs : IsRunning g state here k under
  pub room : k.threads.next + left < 2 ^ 32 - 1

abbrev pub RunsSomehow : Core → Under → ℕ → Type 0
RunsSomehow k under left = (g : Given) × (state : State) × (here : source.Segment) × MayRun g state here k under left

-- it is at a call that is answered at once
pub record MayAnswer (g : Given) (state : State) (last : source.Segment) (k : Core) (under : Under) (ask : Ask) : Type 0 where
  pub of : IsOf g k
  pub beside : AreBeside g state last.world.threads last.world.exchange last.number k.threads k.scheduler under.choice.thread
  pub thread : IsThread g.program under.thread k.words
  pub asks : source_step g.program last.running ≡ asks g.program under.thread k.words (Immediate ask)
  pub there : IsAskThere g.program ask
  pub room : k.threads.next < 2 ^ 32 - 1

abbrev pub AsksSomehow : Core → Under → Ask → Type 0
AsksSomehow k under ask = (g : Given) × (state : State) × (last : source.Segment) × MayAnswer g state last k under ask

-- ---- what comes next

-- the next output is this word, after this number of steps
pub record Puts (g : Given) (state : State) (here : source.Segment) (steps word : ℕ) (k : Core) (under : Under) : Type 0 where
  pub after : source.Segment
  pub next : PutsNext g.program g.policy.caps here steps word after
  pub runs : IsRunning g state after k under

-- the thread next rests in this way, after this number of steps; the threads are those of a world in which it doesn't
-- rest yet
pub record Rests (g : Given) (state : State) (here : source.Segment) (steps : ℕ) (rest : source.Rest) (k : Core) (under : Under) : Type 0 where
  pub last : source.World
  pub beside : AreBeside g state last.threads last.exchange here.number k.threads k.scheduler under.choice.thread
  pub next : RestsNext g.program g.policy.caps here steps
      (record { trap = None; world = record last { threads = slice_set last.threads here.number rest; globals = globals_of g.program k.words } })

-- it next blocks at a call, which is no trap
pub record Blocks (g : Given) (state : State) (here : source.Segment) (steps : ℕ) (block : Block) (k : Core) (under : Under) : Type 0 where
  pub rests : Rests g state here steps (source.Blocked block (waiting_of g.program under.thread)) k under
  pub thread : IsThread g.program under.thread k.words
  pub untrapped : (row_of k.threads.exchange block).trap ≡ None

-- it next ends
pub record Ends (g : Given) (state : State) (here : source.Segment) (steps : ℕ) (k : Core) (under : Under) : Type 0 where
  pub rests : Rests g state here steps source.Ended k under
  pub full : IsFull g.program k.words

-- it next traps in this way
pub record Traps (g : Given) (here : source.Segment) (steps : ℕ) (kind : TrapKind) : Type 0 where
  pub world : source.World
  pub next : RestsNext g.program g.policy.caps here steps (record { trap = Some kind; world = world })

-- it next reaches a start while the maximum number is live; the start was tried but isn't counted
pub record IsCrowded (g : Given) (here : source.Segment) (taken : ℕ) : Type 0 where
  pub steps : ℕ
  pub next : IsCrowdedNext g.program g.policy.caps here steps
  pub taken_is : taken ≡ suc steps

-- this number of steps continues silently, and the source's run is then in this state
pub record GoesOnFor (g : Given) (state : State) (here : source.Segment) (steps : ℕ) (k : Core) (under : Under) : Type 0 where
  pub after : source.Segment
  pub silent : IsSilent g.program g.policy.caps here steps after
  pub runs : IsRunning g state after k under

abbrev pub HasHappened : Given → State → source.Segment → (old_left left : ℕ) → Core → Under → Result Happening Failure → Type 0
HasHappened g state here old_left left k under (Ok (happening.Puts word)) = Puts g state here (old_left - left) word k under
HasHappened g state here old_left left k under (Ok (happening.Blocks block)) = Blocks g state here (old_left - left) block k under
HasHappened g state here old_left left k under (Ok happening.Ends) = Ends g state here (old_left - left) k under
HasHappened g state here old_left left k under (Ok (happening.Traps kind)) = Traps g here (old_left - left) kind
HasHappened g state here old_left left k under (Ok happening.IsCrowded) = IsCrowded g here (old_left - left)
HasHappened g state here old_left left k under (Ok happening.OutOfSteps) = (left ≡ 0) × GoesOnFor g state here old_left k under
HasHappened g state here old_left left k under (Err failure) = failure ≡ Failure.Memory

-- within this number of steps there is no start while the maximum number is live
abbrev pub NoneCrowded : Given → source.Segment → ℕ → Type 0
NoneCrowded g here taken = (steps : ℕ) → steps < taken → IsCrowdedNext g.program g.policy.caps here steps → ⊥

-- a start above the maximum is returned only if it is asked for, and then first
abbrev pub CrowdsFirst : Given → source.Segment → Bool → (taken : ℕ) → Result Happening Failure → Type 0
CrowdsFirst g here crowds taken (Ok happening.IsCrowded) = crowds ≡ true
CrowdsFirst g here crowds taken (Ok came) = crowds ≡ true → NoneCrowded g here taken
CrowdsFirst g here crowds taken (Err failure) = Unit {0}

-- ---- parts of a run

-- the call has an answer, with which the thread continues
pub record GoesTo (g : Given) (state : State) (last : source.Segment) (outputs : List (ℕ × ℕ)) (k : Core) (under : Under) : Type 0 where
  pub after : source.Segment
  pub goes : segment_step g.program g.policy.caps last ≡ Goes after
  pub outputs_are : after.world.outputs ≡ last.world.outputs ++ outputs
  pub runs : IsRunning g state after k under

-- the call is a trap
pub record TrapsAt (g : Given) (last : source.Segment) (kind : TrapKind) : Type 0 where
  pub world : source.World
  pub stops : segment_step g.program g.policy.caps last ≡ Stops (record { trap = Some kind; world = world })

-- the call starts a thread
pub record StartsAt (g : Given) (last : source.Segment) : Type 0 where
  pub after : source.Segment
  pub goes : segment_step g.program g.policy.caps last ≡ Goes after
  pub one_more : length after.world.threads ≡ suc (length last.world.threads)

-- it does so while the maximum number is live
abbrev pub CrowdsAt : Given → source.Segment → Type 0
CrowdsAt g last = (live_in last.world ≡ most_threads) × StartsAt g last

abbrev pub Answers : Given → State → source.Segment → Bool → Core → Under → Result (Option Happening) Failure → Type 0
Answers g state last crowds k under (Ok None) = GoesTo g state last [] k under × (crowds ≡ true → CrowdsAt g last → ⊥)
Answers g state last crowds k under (Ok (Some (happening.Puts word))) = GoesTo g state last ((last.number, word) ∷ []) k under × (crowds ≡ true → CrowdsAt g last → ⊥)
Answers g state last crowds k under (Ok (Some (happening.Traps kind))) = TrapsAt g last kind
Answers g state last crowds k under (Ok (Some happening.IsCrowded)) = CrowdsAt g last × (crowds ≡ true)
Answers g state last crowds k under (Ok (Some (happening.Blocks block))) = ⊥
Answers g state last crowds k under (Ok (Some happening.Ends)) = ⊥
Answers g state last crowds k under (Ok (Some happening.OutOfSteps)) = ⊥
Answers g state last crowds k under (Err failure) = failure ≡ Failure.Memory

-- the thread has continued silently by some steps, or this has come
pub record GoesOn (g : Given) (state : State) (here : source.Segment) (crowds : Bool) (steps : ℕ) (k : Core) (under : Under) : Type 0 where
  pub after : source.Segment
  pub silent : IsSilent g.program g.policy.caps here steps after
  pub some : 1 ≤ steps
  pub runs : IsRunning g state after k under
  pub none : crowds ≡ true → NoneCrowded g here steps

abbrev pub Advances : Given → State → source.Segment → Bool → (old_left left : ℕ) → Core → Under → Result (Option Happening) Failure → Type 0
Advances g state here crowds old_left left k under (Ok None) = GoesOn g state here crowds (old_left - left) k under
Advances g state here crowds old_left left k under (Ok (Some came)) =
    HasHappened g state here old_left left k under (Ok came) × CrowdsFirst g here crowds (old_left - left) (Ok came)
Advances g state here crowds old_left left k under (Err failure) = failure ≡ Failure.Memory

-- ---- a run of several parts

-- the thread has continued silently by this number of steps, none of which started a thread above the maximum
pub record GoneOn (g : Given) (state : State) (here : source.Segment) (crowds : Bool) (steps : ℕ) (k : Core) (under : Under) : Type 0 where
  pub after : source.Segment
  pub silent : IsSilent g.program g.policy.caps here steps after
  pub runs : IsRunning g state after k under
  pub none : crowds ≡ true → NoneCrowded g here steps

-- the same from where the run began, whose state may run
abbrev pub RunsOn : (old : Core) (old_under : Under) (old_left : ℕ) → Bool → (k : Core) → (under : Under) → (left : ℕ) → Type 0
RunsOn old old_under old_left crowds k under left =
    (g : Given) (state : State) (here : source.Segment) → MayRun g state here old old_under old_left → GoneOn g state here crowds (old_left - left) k under
