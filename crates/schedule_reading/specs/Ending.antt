-- The end of a log, compared with what is kept.
use Rattle.std.specs.Prelude.{◌≡◌, ℕ, ◌+◌, ◌<◌, ◌≤◌, ◌⊎◌, Bool, true, false, List, [], ◌∷◌, drop, length, map, Option, None, Some, Result, Ok, Err}
use Rattle.cap_word.specs.declared.stops.Stop.{Stop}
use Rattle.cap_word.specs.declared.traps.TrapKind.{TrapKind}
use Rattle.c_mean.specs.World as source
use Rattle.choice_rules.specs.EdgeLines.{edge_entry}
use Rattle.lawful_reading.specs.Ends.{IsCause, MayStop, StopsBy, edges_left}
use Rattle.lawful_reading.specs.Given.{Given}
use Rattle.lawful_reading.specs.Happenings.{ComesAt, IsCrowdedNext, RestsNext}
use Rattle.lawful_reading.specs.Reading.{IsBeyond, StopNeeds}
use Rattle.lawful_reading.specs.State.{Segment, State}
use Rattle.lawful_reading.specs.State as reading
use Rattle.schedule_log.specs.declared.entries.Entry.{Entry}
use Rattle.schedule_log.specs.declared.entries.StopLine.{StopLine}
use Rattle.schedule_reading.specs.declared.stops.Between.{Between}
use Rattle.schedule_reading.specs.declared.stops.Between.TheVariants as between
use Rattle.schedule_reading.specs.declared.edges.Shown.{Shown}
use Rattle.schedule_reading.specs.declared.points.Point.{Point}
use Rattle.schedule_reading.specs.declared.points.Point.TheVariants as point
use Rattle.schedule_reading.specs.declared.reading.End.{End}
use Rattle.schedule_reading.specs.declared.reading.End.TheVariants as end
use Rattle.schedule_reading.specs.declared.reading.Under.{Under}
use Rattle.schedule_reading.specs.declared.rulings.Failure.{Failure}
use Rattle.schedule_reading.specs.declared.rulings.Ruling.{Ruling}
use Rattle.schedule_reading.specs.declared.rulings.Ruling.TheVariants as ruling
use Rattle.schedule_reading.specs.Closing.{IsWithin}
use Rattle.schedule_reading.specs.Kept.{Core, Kept}
use Rattle.schedule_reading.specs.Stands.{IsEnd, IsLooked, IsTold, StandsBy}

-- ---- edges

-- the line as printed
abbrev pub entry_of : Shown → Entry
entry_of line = Entry.Edge line.from line.to line.count line.cost line.changes

-- no edge is yet to be read
abbrev pub AreOver : Core → End → Type 0
AreOver k end.NotYet = k.graph.edges ≡ []
AreOver k (end.Edges edges read) = read ≡ length edges.items
AreOver k end.Stopped = ⊥

-- these edges are yet to be read, or none is since the stop has come
abbrev pub AreLeft : Given → State → End → Type 0
AreLeft g state end.NotYet = ⊥
AreLeft g state (end.Edges edges read) = (edges_left g state state.end ≡ map (edge_entry g.policy.caps) (drop read edges.items)) × (read ≤ length edges.items)
AreLeft g state end.Stopped = edges_left g state state.end ≡ []

-- the line is that of the next edge, which is then read; or it isn't
abbrev pub RulesEdge : Given → State → Kept → Shown → Kept → Result Ruling Failure → Type 0
RulesEdge g state old line new (Ok ruling.Allowed) =
    (rest : List Entry) × (edges_left g state state.end ≡ entry_of line ∷ rest) × IsEnd g (record state { end = reading.Edges rest }) new.end
RulesEdge g state old line new (Ok ruling.Refused) = (rest : List Entry) → edges_left g state state.end ≡ entry_of line ∷ rest → ⊥
RulesEdge g state old line new (Ok ruling.OutOfSteps) = ⊥
RulesEdge g state old line new (Err failure) = failure ≡ Failure.Memory

-- ---- the stop

-- the stop has its cause, after this number of steps; or it hasn't; or that needs too many steps
abbrev pub RulesStop : Given → State → Kept → Option (List ℕ) → StopLine → Result Ruling Failure → Type 0
RulesStop g state old told line (Ok ruling.Allowed) = (steps : ℕ) × (IsTold state old told → StopsBy g state line steps) × (state.steps + steps ≤ g.most_steps)
RulesStop g state old told line (Ok ruling.Refused) = IsTold state old told → ((steps : ℕ) → StopsBy g state line steps → ⊥) × (IsBeyond g state (Entry.Stop line) → ⊥)
RulesStop g state old told line (Ok ruling.OutOfSteps) = IsBeyond g state (Entry.Stop line)
RulesStop g state old told line (Err failure) = Unit {0}

-- the same if the trace isn't examined
abbrev pub RulesCut : Given → State → StopLine → Result Ruling Failure → Type 0
RulesCut g state line (Ok ruling.Allowed) = (steps : ℕ) × StopsBy g state line steps × (state.steps + steps ≤ g.most_steps)
RulesCut g state line (Ok ruling.Refused) = ((steps : ℕ) → StopsBy g state line steps → ⊥) × (IsBeyond g state (Entry.Stop line) → ⊥)
RulesCut g state line (Ok ruling.OutOfSteps) = IsBeyond g state (Entry.Stop line)
RulesCut g state line (Err failure) = failure ≡ Failure.Memory

-- a stop may come here, if the trace is exposed, and what is kept is unchanged
pub record MayStopHere (g : Given) (state : State) (old : Kept) (told : Option (List ℕ)) (new : Kept) (told' : Option (List ℕ)) : Type 0 where
  pub may : IsTold state old told → MayStop g state
  pub stands : StandsBy g state new.core new.under
  pub looked : IsLooked new.reader new.next
  pub trace : IsTold state old told → IsTold state new told'

abbrev pub TellsStop : Given → State → (old : Kept) (told : Option (List ℕ)) (new : Kept) (told' : Option (List ℕ)) → Bool → Type 0
TellsStop g state old told new told' true = MayStopHere g state old told new told'
TellsStop g state old told new told' false = IsTold state old told → (MayStop g state → ⊥) × (state.segment ≡ None)

-- ---- stops

abbrev pub stop_line : Between → StopLine
stop_line between.Done = StopLine.Done
stop_line between.Idle = StopLine.Idle
stop_line (between.Trace line) = StopLine.Trace line

-- the stop is that of what is required at the choice point
abbrev pub Fits : Point → Between → Type 0
Fits point.Done between.Done = Unit {0}
Fits point.Idle between.Idle = Unit {0}
Fits (point.BadTrace line) (between.Trace number) = line ≡ number
Fits p stop = ⊥

-- the line names the running thread, with a possible cost and number of free chunks
abbrev pub Tells : Core → Under → (thread cost free : ℕ) → Type 0
Tells k under thread cost free = (thread ≡ under.choice.thread.number) × IsWithin k cost free

-- the segment in progress has this cause to be cut off, after this number of steps
abbrev pub RulesCause : Given → State → Stop → ℕ → Result Ruling Failure → Type 0
RulesCause g state stop cost (Ok ruling.Allowed) =
    (segment : Segment) × (state.segment ≡ Some segment) × (steps : ℕ) × IsCause g state segment stop cost steps × (state.steps + steps ≤ g.most_steps)
RulesCause g state stop cost (Ok ruling.Refused) =
    (segment : Segment) × (state.segment ≡ Some segment) × ((steps : ℕ) → IsCause g state segment stop cost steps → ⊥)
    × (((steps : ℕ) → StopNeeds g segment stop steps → g.most_steps < state.steps + steps) → ⊥)
RulesCause g state stop cost (Ok ruling.OutOfSteps) =
    (segment : Segment) × (state.segment ≡ Some segment) × ((steps : ℕ) → StopNeeds g segment stop steps → g.most_steps < state.steps + steps)
RulesCause g state stop cost (Err failure) = failure ≡ Failure.Memory

-- the thread of a segment next traps in this way, after this number of steps
abbrev pub TrapsNext : Given → Segment → ℕ → TrapKind → Type 0
TrapsNext g segment steps kind = (reached : source.Rested) × RestsNext g.program g.policy.caps segment.here steps reached × (reached.trap ≡ Some kind)

-- the ruling on a trap of the segment in progress
abbrev pub RulesTrap : Given → State → TrapKind → Result Ruling Failure → Type 0
RulesTrap g state kind (Ok ruling.Allowed) =
    (segment : Segment) × (state.segment ≡ Some segment) × (steps : ℕ) × TrapsNext g segment steps kind × (state.steps + steps ≤ g.most_steps)
RulesTrap g state kind (Ok ruling.Refused) =
    (segment : Segment) × (state.segment ≡ Some segment) × (steps : ℕ) × ComesAt g.program g.policy.caps segment.here steps × (state.steps + steps ≤ g.most_steps)
    × ((other : ℕ) → TrapsNext g segment other kind → ⊥)
RulesTrap g state kind (Ok ruling.OutOfSteps) =
    (segment : Segment) × (state.segment ≡ Some segment) × ((steps : ℕ) → ComesAt g.program g.policy.caps segment.here steps → g.most_steps < state.steps + steps)
RulesTrap g state kind (Err failure) = failure ≡ Failure.Memory

-- the ruling on a start while the maximum number is live
abbrev pub RulesCrowd : Given → State → Result Ruling Failure → Type 0
RulesCrowd g state (Ok ruling.Allowed) =
    (segment : Segment) × (state.segment ≡ Some segment) × (steps : ℕ) × IsCrowdedNext g.program g.policy.caps segment.here steps × (state.steps + steps ≤ g.most_steps)
RulesCrowd g state (Ok ruling.Refused) =
    (segment : Segment) × (state.segment ≡ Some segment) × (steps : ℕ) × ComesAt g.program g.policy.caps segment.here steps × (state.steps + steps ≤ g.most_steps)
    × ((other : ℕ) → IsCrowdedNext g.program g.policy.caps segment.here other → ⊥)
RulesCrowd g state (Ok ruling.OutOfSteps) =
    (segment : Segment) × (state.segment ≡ Some segment)
    × ((steps : ℕ) → IsCrowdedNext g.program g.policy.caps segment.here steps ⊎ ComesAt g.program g.policy.caps segment.here steps → g.most_steps < state.steps + steps)
RulesCrowd g state (Err failure) = failure ≡ Failure.Memory
