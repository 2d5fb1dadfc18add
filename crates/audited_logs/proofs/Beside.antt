-- A state of a lawful log, and the state of its lawful reading beside it: the machine is left out, and of the segment under way stands
-- where the source's run has come to.
use Rattle.audited_logs.proofs.Common.{◌≡◌, ℕ, ◌+◌, Bool, false, true, List, ◌∷◌, length, Option, Some, None, sym, ap, ◌∙◌, is_some, IsCutAt, Waiter, Past, Seen, Trace, checked_of, Setup, setting_of, State, held_chunks, live_in, NotYet, World, IsWellFormed, FitsEntry, Entry, with_puts, IsReached, StandsSettled, given_of}
use Rattle.c_mean.specs.World as source
use Rattle.lawful_log.specs.State as log
use Rattle.lawful_reading.specs.Reading as reading
use Rattle.lawful_reading.specs.State as reading_state
use Rattle.audited_logs.proofs.Acts.{Few}
use Rattle.audited_logs.proofs.Live.{live_between}
use Rattle.audited_logs.proofs.Pools.{chunk_count}
use Rattle.audited_logs.proofs.Ranges.{InRange}
use Rattle.audited_logs.proofs.Texts.{Whole, whole_more}

-- ---- worlds

-- what every world of the run keeps
pub record Holds (g : Setup) (w : World) : Type 0 where
  pub formed : IsWellFormed (checked_of g) (setting_of g) w
  pub count : chunk_count w ≡ g.policy.chunks + g.policy.extra
  pub few : Few w

-- no segment is under way
pub record Rests (g : Setup) (a : State) : Type 0 where
  pub none : a.segment ≡ None
  pub holds : Holds g a.machine
  pub stands : StandsSettled (checked_of g) g.program a.machine a.source

-- a segment is under way that began in this source world, has put these words, and has retired so many instructions since this clock
-- and this cost
pub record Runs (g : Setup) (start : source.World) (number : ℕ) (puts : List ℕ) (clock cost spent : ℕ) (w : World) : Type 0 where
  pub holds : Holds g w
  pub reached : IsReached (checked_of g) g.program (setting_of g) start number puts w
  pub clock_is : w.clock ≡ clock + spent
  pub cost_is : w.cost ≡ cost + spent

-- where the source's run of the thread is, cut at what it has put
pub record IsAt (g : Setup) (start : source.World) (number : ℕ) (puts : List ℕ) (here : source.Segment) : Type 0 where
  pub cut : IsCutAt g.program g.policy.caps start number (length puts) here
  pub outputs : here.world.outputs ≡ with_puts start number puts

-- ---- states

abbrev pub between_at : (clock cost held : ℕ) → source.World → Trace → List Waiter → Past → ℕ → reading_state.State
between_at clock cost held world trace waiting past steps = record {
  clock = clock;
  cost = cost;
  held = held;
  source = world;
  trace = trace;
  waiting = waiting;
  segment = None;
  past = past;
  steps = steps;
  end = NotYet;
}

-- the state of the reading between segments
abbrev pub between_of : State → ℕ → reading_state.State
between_of a steps = between_at a.machine.clock a.machine.cost (held_chunks a.machine) a.source a.trace a.waiting a.past steps

-- and within one
abbrev pub within_of : State → (clock cost held : ℕ) → reading_state.Segment → ℕ → reading_state.State
within_of a clock cost held segment steps = record {
  clock = clock;
  cost = cost;
  held = held;
  source = a.source;
  trace = a.trace;
  waiting = a.waiting;
  segment = Some segment;
  past = a.past;
  steps = steps;
  end = NotYet;
}

abbrev pub segment_of : log.Segment → source.Segment → reading_state.Segment
segment_of segment here = record { node = segment.node; uses = segment.uses; here = here }

pub data Position (g : Setup) (a : State) (b : reading_state.State) : Type 0 where
  Between : Rests g a → b ≡ between_of a b.steps → Position g a b
  Within : (segment : log.Segment) (clock cost held : ℕ) (here : source.Segment) → a.segment ≡ Some segment →
      Runs g a.source segment.thread segment.puts clock cost segment.cost a.machine → IsAt g a.source segment.thread segment.puts here →
      b ≡ within_of a clock cost held (segment_of segment here) b.steps → Position g a b

-- ---- the same for choice points

abbrev seen_with : State → ℕ → Bool → Seen
seen_with a live under_way = record {
  clock = a.machine.clock;
  live = live;
  held = held_chunks a.machine;
  source = a.source;
  trace = a.trace;
  waiting = a.waiting;
  under_way = under_way;
  past = a.past;
}

-- between segments a choice point sees the same
pub same_seen : (g : Setup) (a : State) (steps : ℕ) → Rests g a → log.seen_of a ≡ reading_state.seen_of (between_of a steps)
same_seen g a steps rests =
    ap (λ (n : ℕ). seen_with a n (is_some a.segment)) (live_between (checked_of g) g.program a.machine a.source rests.holds.formed.counted.numbered rests.stands.stands)
    ∙ ap (λ (o : Option log.Segment). seen_with a (live_in a.source) (is_some o)) rests.none

no_segment : (segment : log.Segment) → ◌≡◌ {A = Option log.Segment} None (Some segment) → ⊥
no_segment segment e = absurd (cc)

pub not_both : (a : State) (segment : log.Segment) → a.segment ≡ None → a.segment ≡ Some segment → ⊥
not_both a segment none under = no_segment segment (sym none ∙ under)

pub not_within : (a : State) (segment : log.Segment) → a.segment ≡ Some segment → is_some a.segment ≡ false → ⊥
not_within a segment under between = let no : true ≡ false = sym (ap (λ (o : Option log.Segment). is_some o) under) ∙ between in absurd (cc)

pub same_segment : (a : State) (one other : log.Segment) → a.segment ≡ Some one → a.segment ≡ Some other → one ≡ other
same_segment a one other e f = let both : Some one ≡ Some other = sym e ∙ f in cc

-- ---- one entry

-- the entry is allowed as a line, and leads to the state beside the next one
pub record Next (g : Setup) (most : ℕ) (b : reading_state.State) (entry : Entry) (a : State) : Type 0 where
  pub after : reading_state.State
  pub allowed : reading.IsAllowed (given_of g most) b entry after
  pub position : Position g a after

-- from every state in range beside it these lines are allowed, up to the stop
abbrev pub GoesOn : Setup → ℕ → State → List Entry → Type 0
GoesOn g most a entries = (b : reading_state.State) → Position g a b → InRange g.program g.policy.caps b → Whole (given_of g most) b entries

pub next_goes : (g : Setup) (most : ℕ) (b : reading_state.State) (entry : Entry) (a : State) (entries : List Entry) → (next : Next g most b entry a) → FitsEntry entry → InRange g.program g.policy.caps next.after →
    GoesOn g most a entries → Whole (given_of g most) b (entry ∷ entries)
next_goes g most b entry a entries next fits range later = whole_more (given_of g most) b next.after entry entries fits next.allowed (later next.after next.position range)
