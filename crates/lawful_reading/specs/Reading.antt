-- The lawful reading of a log: its lines are read one after another, and the first line that isn't allowed makes the
-- log unlawful.
use Rattle.std.specs.Prelude.{◌≡◌, ◌≢◌, ℕ, suc, ◌+◌, ◌<◌, ◌≤◌, true, false, List, [], ◌∷◌, ◌++◌, length, Some, ◌⊎◌}
use Rattle.cap_word.specs.declared.stops.Stop.{Stop}
use Rattle.schedule_log.specs.EntryText.{entry_text, log_text}
use Rattle.schedule_log.specs.EntryRanges.{FitsEntry}
use Rattle.schedule_log.specs.declared.entries.Entry.{Entry}
use Rattle.schedule_log.specs.declared.entries.StopLine.{StopLine}
use Rattle.lawful_reading.specs.Given.{Given}
use Rattle.lawful_reading.specs.Happenings.{ComesAt, IsCrowdedNext}
use Rattle.lawful_reading.specs.State.{Segment, State, Stopped, start_of}
use Rattle.lawful_reading.specs.Choice.{IsComing, IsRun}
use Rattle.lawful_reading.specs.Segments.{IsOut, IsBlock, IsEnd}
use Rattle.lawful_reading.specs.Ends.{IsEdge, IsStop}

-- a line is allowed in the first state and leads to the second
abbrev pub IsAllowed : Given → State → Entry → State → Type 0
IsAllowed g before (Entry.Event clock item) after = IsComing g before clock item false after
IsAllowed g before (Entry.Dropped clock item) after = IsComing g before clock item true after
IsAllowed g before (Entry.Run clock thread node) after = IsRun g before clock thread node after
IsAllowed g before (Entry.Out thread value) after = IsOut g before thread value after
IsAllowed g before (Entry.Block thread node key cost free) after = IsBlock g before thread node key cost free after
IsAllowed g before (Entry.End thread cost free) after = IsEnd g before thread cost free after
IsAllowed g before (Entry.Edge from to count cost changes) after = IsEdge g before (Entry.Edge from to count cost changes) after
IsAllowed g before (Entry.Stop line) after = IsStop g before line after

-- ---- steps

-- the number of steps that a stop's line needs
abbrev pub StopNeeds : Given → Segment → Stop → ℕ → Type 0
StopNeeds g segment (Stop.Trap kind) steps = ComesAt g.program g.policy.caps segment.here steps
StopNeeds g segment Stop.NoChunk steps = steps ≡ 0
StopNeeds g segment Stop.Fuel steps = steps ≡ 0
StopNeeds g segment Stop.Threads steps = IsCrowdedNext g.program g.policy.caps segment.here steps ⊎ ComesAt g.program g.policy.caps segment.here steps

-- the number of steps that a line needs while this segment is in progress: those up to and including the next output,
-- block, end or trap; for `stop threads`, those up to the start of a thread while the maximum number is live, if that
-- comes first
abbrev pub Needs : Given → Segment → Entry → ℕ → Type 0
Needs g segment (Entry.Event clock item) steps = steps ≡ 0
Needs g segment (Entry.Dropped clock item) steps = steps ≡ 0
Needs g segment (Entry.Run clock thread node) steps = steps ≡ 0
Needs g segment (Entry.Out thread value) steps = ComesAt g.program g.policy.caps segment.here steps
Needs g segment (Entry.Block thread node key cost free) steps = ComesAt g.program g.policy.caps segment.here steps
Needs g segment (Entry.End thread cost free) steps = ComesAt g.program g.policy.caps segment.here steps
Needs g segment (Entry.Edge from to count cost changes) steps = steps ≡ 0
Needs g segment (Entry.Stop StopLine.Done) steps = steps ≡ 0
Needs g segment (Entry.Stop StopLine.Idle) steps = steps ≡ 0
Needs g segment (Entry.Stop (StopLine.Trace line)) steps = steps ≡ 0
Needs g segment (Entry.Stop (StopLine.Cut thread stop cost free)) steps = StopNeeds g segment stop steps

-- a line needs, together with those before it, more steps than the limit; also if what it needs never happens
pub record IsBeyond (g : Given) (state : State) (entry : Entry) : Type 0 where
  pub segment : Segment
  pub under_way : state.segment ≡ Some segment
  pub beyond : (steps : ℕ) → Needs g segment entry steps → g.most_steps < state.steps + steps

-- ---- the judgement

-- lines that are allowed one after another, within the limit on steps; each has the format
pub data Leads (g : Given) : State → List Entry → State → Type 0 where
  nowhere : {state : State} → Leads g state [] state
  by_line : {before between after : State} {entry : Entry} {entries : List Entry} →
      FitsEntry entry → IsAllowed g before entry between → between.steps ≤ g.most_steps → Leads g between entries after → Leads g before (entry ∷ entries) after

-- bytes begin with the line of an entry and its line feed
pub record BeginsWith (entry : Entry) (bytes left : List ℕ) : Type 0 where
  pub fits : FitsEntry entry
  pub bytes_are : bytes ≡ entry_text entry ++ 10 ∷ left

-- every line is allowed, and the last is a stop
pub record IsLawful (g : Given) (trace log : List ℕ) : Type 0 where
  pub entries : List Entry
  pub last : State
  pub leads : Leads g (start_of g trace) entries last
  pub stopped : last.end ≡ Stopped
  pub log_is : log ≡ log_text entries

-- no line is allowed next: either the bytes end before a stop, or they begin with no line of the format or with one
-- that isn't allowed
pub record IsRefused (g : Given) (state : State) (bytes : List ℕ) : Type 0 where
  pub over : bytes ≡ [] → state.end ≢ Stopped
  pub refused : (entry : Entry) (left : List ℕ) → BeginsWith entry bytes left → (after : State) → IsAllowed g state entry after → ⊥
  pub within : (entry : Entry) (left : List ℕ) → BeginsWith entry bytes left → IsBeyond g state entry → ⊥

-- this is the first line that isn't allowed, or one more than the number of lines if none of them is a stop
pub record IsUnlawful (g : Given) (trace log : List ℕ) (line : ℕ) : Type 0 where
  pub entries : List Entry
  pub last : State
  pub leads : Leads g (start_of g trace) entries last
  pub bytes : List ℕ
  pub refused : IsRefused g last bytes
  pub log_is : log ≡ log_text entries ++ bytes
  pub line_is : line ≡ suc (length entries)

-- all earlier lines are allowed, and this is the first line that needs, together with them, more steps than the limit
pub record IsTooLong (g : Given) (trace log : List ℕ) (line : ℕ) : Type 0 where
  pub entries : List Entry
  pub last : State
  pub leads : Leads g (start_of g trace) entries last
  pub entry : Entry
  pub bytes : List ℕ
  pub left : List ℕ
  pub begins : BeginsWith entry bytes left
  pub beyond : IsBeyond g last entry
  pub log_is : log ≡ log_text entries ++ bytes
  pub line_is : line ≡ suc (length entries)
