-- What the lines of a log print, and what a choice among them depends on, if the lines before it are lawful.
use Rattle.std.specs.Prelude.{◌≡◌, ℕ, ◌+◌, ◌-◌, List, [], ◌∷◌, ◌++◌, map}
use Rattle.c_mean.specs.World as source
use Rattle.choice_rules.specs.Choice.{IsChoice}
use Rattle.choice_rules.specs.Seen.{Waiter}
use Rattle.lawful_log.specs.Good.{delivered}
use Rattle.lawful_reading.specs.Given.{Given, chunks_of}
use Rattle.lawful_reading.specs.Reading.{Leads}
use Rattle.lawful_reading.specs.State.{State, seen_of, start_of}
use Rattle.schedule_log.specs.declared.entries.Entry.{Entry}

-- ---- what lines print

-- the schedule: the delivery of each `event`, and the run of a thread at each `block` and `end`
abbrev pub schedule_of : List Entry → List source.Entry
schedule_of [] = []
schedule_of (Entry.Event clock item ∷ entries) = source.Deliver (delivered item) ∷ schedule_of entries
schedule_of (Entry.Dropped clock item ∷ entries) = schedule_of entries
schedule_of (Entry.Run clock thread node ∷ entries) = schedule_of entries
schedule_of (Entry.Out thread value ∷ entries) = schedule_of entries
schedule_of (Entry.Block thread node key cost free ∷ entries) = source.Run thread ∷ schedule_of entries
schedule_of (Entry.End thread cost free ∷ entries) = source.Run thread ∷ schedule_of entries
schedule_of (Entry.Edge from to count cost changes ∷ entries) = schedule_of entries
schedule_of (Entry.Stop stop ∷ entries) = schedule_of entries

-- the costs of the segments
abbrev pub costs_of : List Entry → List ℕ
costs_of [] = []
costs_of (Entry.Event clock item ∷ entries) = costs_of entries
costs_of (Entry.Dropped clock item ∷ entries) = costs_of entries
costs_of (Entry.Run clock thread node ∷ entries) = costs_of entries
costs_of (Entry.Out thread value ∷ entries) = costs_of entries
costs_of (Entry.Block thread node key cost free ∷ entries) = cost ∷ costs_of entries
costs_of (Entry.End thread cost free ∷ entries) = cost ∷ costs_of entries
costs_of (Entry.Edge from to count cost changes ∷ entries) = costs_of entries
costs_of (Entry.Stop stop ∷ entries) = costs_of entries

-- the clock after these lines: an `event`, a `drop` and a `run` print it, and a segment advances it by its cost
abbrev pub clock_after : ℕ → List Entry → ℕ
clock_after now [] = now
clock_after now (Entry.Event clock item ∷ entries) = clock_after clock entries
clock_after now (Entry.Dropped clock item ∷ entries) = clock_after clock entries
clock_after now (Entry.Run clock thread node ∷ entries) = clock_after clock entries
clock_after now (Entry.Out thread value ∷ entries) = clock_after now entries
clock_after now (Entry.Block thread node key cost free ∷ entries) = clock_after (now + cost) entries
clock_after now (Entry.End thread cost free ∷ entries) = clock_after (now + cost) entries
clock_after now (Entry.Edge from to count cost changes ∷ entries) = clock_after now entries
clock_after now (Entry.Stop stop ∷ entries) = clock_after now entries

-- the number of held chunks: all chunks except those that the last `block` or `end` prints as free
abbrev pub held_after : ℕ → ℕ → List Entry → ℕ
held_after chunks held [] = held
held_after chunks held (Entry.Event clock item ∷ entries) = held_after chunks held entries
held_after chunks held (Entry.Dropped clock item ∷ entries) = held_after chunks held entries
held_after chunks held (Entry.Run clock thread node ∷ entries) = held_after chunks held entries
held_after chunks held (Entry.Out thread value ∷ entries) = held_after chunks held entries
held_after chunks held (Entry.Block thread node key cost free ∷ entries) = held_after chunks (chunks - free) entries
held_after chunks held (Entry.End thread cost free ∷ entries) = held_after chunks (chunks - free) entries
held_after chunks held (Entry.Edge from to count cost changes ∷ entries) = held_after chunks held entries
held_after chunks held (Entry.Stop stop ∷ entries) = held_after chunks held entries

-- ---- the choices

-- a `run` line after these lines names the rule's choice by what is visible there: the program's world under the
-- schedule that they print, the averages of the costs that they print, and the clock and the held chunks that they
-- print
pub record IsPrintedChoice (g : Given) (trace : List ℕ) (earlier : List Entry) (clock thread node : ℕ) : Type 0 where
  pub state : State
  pub read : Leads g (start_of g trace) earlier state
  pub chosen : Waiter
  pub choice : IsChoice g.policy (seen_of state) clock chosen
  pub thread_is : thread ≡ chosen.thread
  pub node_is : node ≡ chosen.node
  pub source : source.IsAfter g.program g.policy.caps (source.start_world g.program) (schedule_of earlier) state.source
  pub costs : map (λ segment. segment.cost) state.past.records ≡ costs_of earlier
  pub clock_is : state.clock ≡ clock_after 0 earlier
  pub held : state.held ≡ held_after (chunks_of g) 1 earlier

-- each `run` line does so
abbrev pub AreLawfulChoices : Given → List ℕ → List Entry → Type 0
AreLawfulChoices g trace entries =
    (earlier later : List Entry) (clock thread node : ℕ) → entries ≡ earlier ++ Entry.Run clock thread node ∷ later → IsPrintedChoice g trace earlier clock thread node
