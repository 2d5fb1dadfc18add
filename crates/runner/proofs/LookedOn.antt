-- A step of a choice point: it stops, or goes on behind a look at the next line.
use Rattle.runner.proofs.Common.{◌≡◌, ◌≢◌, ℕ, ◌+◌, ◌*◌, ◌<◌, ◌≤◌, false, List, [], length, Option, Some, None, Result, Ok, Err, refl, sym, ap, ◌∙◌, subst, arith, ⊎_elim, is_some, nil_from_length, Event, IsDone, IsBadTrace, IsRefused, Setup, Segment, State, seen_of, GraphState, Thread, World, Held, Failure, Halt, CountsLook, CountsPart, CountsStep, Kept, Output, long_rank, lines_rank, stuck_rank, rank, FallsTo, StandsBetween, StandsSomehow, IsAtPoint, HaltsAt, FailsIn, StepEnds, Rest, HasBytes, Unasked, acts_between, way_between, same_ticks, onward_between, no_part, to_between, sound_between, clock_same, stuck_small}
use Rattle.lawful_log.specs.Beside.{IsGraphOf}
use Rattle.run_course.specs.declared.course.Under.{Under}
use Rattle.run_course.specs.declared.looking.Looked.{Looked}
use Rattle.run_course.specs.Looks.{Sees, Refuses, Nears}

-- what is known of the trace may be left out
pub forget : (g : Setup) (state : State) (k : Kept) (held : Held) (left : Rest) → StandsBetween g state k held left → StandsBetween g state k held Unasked
forget g state k held left is = record {
  of = is.of;
  going = is.going;
  between = is.between;
  ended = is.ended;
  settled = is.settled;
  kept = is.kept;
  needed = is.needed;
  past = is.past;
  gate = is.gate;
  read = record { trace_is = tt; unrefused = is.read.unrefused; fits = is.read.fits };
}

pub unrefused : (k : Kept) (held : Held) → k.under ≡ None → StandsSomehow k held → k.reader.refused ≡ None
unrefused k held e s = (to_between s.0 s.1 k held s.2 e s.3).read.unrefused

module _ (g : Setup) (state : State) (k : Kept) (held : Held) (left : Rest) (stands : StandsBetween g state k held left) where
  threads_same : held.machine.threads ≡ state.machine.threads
  threads_same = ap (λ (w : World). w.threads) stands.between.machine_is

  no_segment : is_some state.segment ≡ false
  no_segment = ap (λ (o : Option Segment). is_some o) stands.between.between

  done : held.machine.threads ≡ [] → IsDone (seen_of state)
  done none = record { between = no_segment; nobody = ap (λ (ts : List Thread). length ts) (sym threads_same ∙ none) }

  bad : (line : ℕ) → held.machine.threads ≢ [] → IsRefused state.trace line → IsBadTrace (seen_of state) line
  bad line live refused = record { between = no_segment; live = λ none. live (threads_same ∙ nil_from_length state.machine.threads none); refused = refused }

  pub done_halts : (taken : Output) → held.machine.threads ≡ [] → HaltsAt g state left k held Halt.Done taken taken
  done_halts taken none = record {
    of = stands.of;
    stops = λ told. (done none, clock_same state held.machine stands.between.machine_is (stands.ended none));
    graph = stands.past.graph_is;
    acts = acts_between g state k held left stands;
    way = way_between g state k held left stands;
    clock = same_ticks state.machine held.machine (clock_same state held.machine stands.between.machine_is (stands.ended none));
    sound = sound_between g state k held left stands;
    thread = tt;
    writes = refl;
  }

  pub refused_halts : (new : Kept) (line : ℕ) (taken : Output) → new.graph ≡ k.graph → held.machine.threads ≢ [] → Refuses g state left held line → HaltsAt g state left new held (Halt.BadTrace line) taken taken
  refused_halts new line taken same live is = record {
    of = stands.of;
    stops = λ told. (bad line live (is.refused told), is.machine_is);
    graph = subst (λ (x : GraphState). IsGraphOf x state.past) (sym same) stands.past.graph_is;
    acts = acts_between g state k held left stands;
    way = way_between g state k held left stands;
    clock = same_ticks state.machine held.machine is.machine_is;
    sound = sound_between g state k held left stands;
    thread = tt;
    writes = refl;
  }

  pub read_fails : (taken : Output) → held.machine ≡ state.machine → FailsIn g state left held taken taken
  read_fails taken same = no_part g state left held taken stands.of (onward_between g state k held left stands same)

pub at_point : (g : Setup) (state : State) (left : Rest) (k : Kept) (held : Held) (event : Option Event) → Sees g state k held left event → k.under ≡ None → held.machine.threads ≢ [] → IsAtPoint g state k held left event
at_point g state left k held event sees under live = record { stands = sees.stands; between = under; known_is = sees.next_is; live = live }

-- nothing is said of what was left, where nothing is said of what is left
pub unasked : (before : Rest) → (HasBytes before → ⊥) → before ≡ Unasked
unasked Unasked none = refl
unasked _ none = absurd (none tt)

-- the step behind a look, from where it was looked
pub from_before : (g : Setup) (state : State) (before here : Rest) (k : Kept) (held : Held) (left : Rest) (taken written : Output) (result : Result (Option Halt) Failure) → (HasBytes before → HasBytes here) →
    StepEnds g state here k held left taken written result → StepEnds g state before k held left taken written result
from_before g state before here k held left taken written (Ok None) told is = record {
  new = is.new;
  entries = is.entries;
  leads = λ t. is.leads (told t);
  acts = is.acts;
  stands = is.stands;
  writes = is.writes;
}
from_before g state before here k held left taken written (Ok (Some halt)) told is = record { of = is.of; stops = λ t. is.stops (told t); graph = is.graph; acts = is.acts; way = is.way; clock = is.clock; sound = is.sound; thread = is.thread; writes = is.writes }
from_before g state before here k held left taken written (Err failure) told is = record {
  new = is.new;
  entries = is.entries;
  leads = λ t. is.leads (told t);
  few = is.few;
  writes = is.writes;
  acts = is.acts;
  way = is.way;
  clock = is.clock;
  sound = is.sound;
  of = is.of;
}

-- ---- counts

pub look_failed : (failure : Failure) (reads reads' writes : ℕ) → CountsLook {V = Looked} (Err failure) reads reads' → CountsStep {V = Option Halt} (Err failure) reads reads' writes writes
look_failed Failure.Read reads reads' writes is = (is, refl)
look_failed _ reads reads' writes is = absurd is

pub part_counts : (result : Result (Option Halt) Failure) (reads reads' writes writes' : ℕ) → reads' ≡ reads → CountsPart result writes writes' → CountsStep result reads reads' writes writes'
part_counts (Err Failure.Read) reads reads' writes writes' e is = absurd is
part_counts _ reads reads' writes writes' e is = (e, is)

-- ---- the measure

nearer : (long long' lines lines' stuck stuck' : ℕ) → long' ≡ long → lines' < lines → stuck' ≤ 1 → 6000010 * long' + (2 * lines' + stuck') ≤ 6000010 * long + (2 * lines + stuck)
nearer long long' lines lines' stuck stuck' same less small = omega (arith, same, less, small)

pub look_falls : (old new : Kept) (held : Held) (event : Option Event) → new.under ≡ old.under → Nears old new (Ok (Looked.Comes event)) → rank new held ≤ rank old held
look_falls old new held event under near = ⊎_elim
    (λ (same : new ≡ old). subst (λ (k : Kept). rank k held ≤ rank old held) (sym same) (omega arith))
    (λ (less : lines_rank new < lines_rank old).
    nearer (long_rank old held) (long_rank new held) (lines_rank old) (lines_rank new) (stuck_rank old.next held) (stuck_rank new.next held)
    (ap (λ (u : Option Under). long_rank (record old { under = u }) held) under) less (stuck_small new.next held))
    near

pub falls_from : (old here new : ℕ) (result : Result (Option Halt) Failure) → here ≤ old → FallsTo here result new → FallsTo old result new
falls_from old here new (Ok None) h falls = let less : new < here = falls in omega (arith, h, less)
falls_from old here new _ h falls = tt
