-- The end of a log: the edges, and the stop.
use Rattle.std.specs.Prelude.{◌≡◌, ◌≢◌, ℕ, ◌+◌, List, [], ◌∷◌, map, Some, None, IsSome, ◌⊎◌}
use Rattle.blocking_graph.specs.Edges.{edges_of}
use Rattle.cap_word.specs.declared.stops.Stop.{Stop}
use Rattle.c_mean.specs.World as source
use Rattle.choice_rules.specs.EdgeLines.{edge_entry}
use Rattle.choice_rules.specs.Stops.{IsDone, IsBadTrace, IsIdle}
use Rattle.schedule_log.specs.declared.entries.Entry.{Entry}
use Rattle.schedule_log.specs.declared.entries.StopLine.{StopLine}
use Rattle.lawful_reading.specs.Given.{Given}
use Rattle.lawful_reading.specs.Happenings.{RestsNext, IsCrowdedNext}
use Rattle.lawful_reading.specs.State.{Segment, State, End, NotYet, Edges, Stopped, seen_of, IsPossible}

-- ---- edges

-- the lines of the edges that are yet to come: at first those of all records
abbrev pub edges_left : Given → State → End → List Entry
edges_left g state NotYet = map (edge_entry g.policy.caps) (edges_of state.past.records)
edges_left g state (Edges left) = left
edges_left g state Stopped = []

-- a stop is possible here: within a segment always `nochunk`, at a choice point by what is visible there
abbrev pub MayStop : Given → State → Type 0
MayStop g state =
    IsSome state.segment ⊎ (IsDone (seen_of state) ⊎ (IsIdle g.policy (seen_of state) ⊎ ((line : ℕ) × IsBadTrace (seen_of state) line)))

-- `edge`: the first edge that is yet to come
pub record IsEdge (g : Given) (before : State) (entry : Entry) (after : State) : Type 0 where
  pub may_stop : MayStop g before
  pub rest : List Entry
  pub first : edges_left g before before.end ≡ entry ∷ rest
  pub after_is : after ≡ record before { end = Edges rest }

-- ---- the stop

-- why the segment in progress is cut here, after this number of further steps
abbrev pub IsCause : Given → State → Segment → Stop → ℕ → ℕ → Type 0
IsCause g before segment (Stop.Trap kind) cost steps =
    (reached : source.Rested) × RestsNext g.program g.policy.caps segment.here steps reached × (reached.trap ≡ Some kind)
IsCause g before segment Stop.NoChunk cost steps = steps ≡ 0
IsCause g before segment Stop.Fuel cost steps = (before.cost + cost ≡ g.policy.fuel) × (steps ≡ 0)
IsCause g before segment Stop.Threads cost steps = IsCrowdedNext g.program g.policy.caps segment.here steps

-- a stop that cuts the segment in progress
pub record IsCut (g : Given) (before : State) (thread : ℕ) (stop : Stop) (cost free steps : ℕ) : Type 0 where
  pub segment : Segment
  pub under_way : before.segment ≡ Some segment
  pub thread_is : thread ≡ segment.here.number
  pub possible : IsPossible g before cost free
  pub cause : IsCause g before segment stop cost steps

-- a stop by its line, after this number of further steps
abbrev pub StopsBy : Given → State → StopLine → ℕ → Type 0
StopsBy g before StopLine.Done steps = IsDone (seen_of before) × (steps ≡ 0)
StopsBy g before StopLine.Idle steps = IsIdle g.policy (seen_of before) × (steps ≡ 0)
StopsBy g before (StopLine.Trace line) steps = IsBadTrace (seen_of before) line × (steps ≡ 0)
StopsBy g before (StopLine.Cut thread stop cost free) steps = IsCut g before thread stop cost free steps

-- `stop`: no edge is yet to come, and nothing may follow
pub record IsStop (g : Given) (before : State) (line : StopLine) (after : State) : Type 0 where
  pub first : before.end ≢ Stopped
  pub edges_over : edges_left g before before.end ≡ []
  pub steps : ℕ
  pub stops : StopsBy g before line steps
  pub after_is : after ≡ record before { segment = None; steps = before.steps + steps; end = Stopped }
