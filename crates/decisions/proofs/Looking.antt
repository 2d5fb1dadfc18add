-- Of a good trace a run looks at good lines alone, and then it doesn't stop at a line of the trace.
use Rattle.choice_rules.specs.Trace.{Trace, IsNext, behind}
use Rattle.decisions.proofs.Common.{◌≡◌, ℕ, ◌<◌, List, [], length, Option, Some, None, refl, sym, ap, subst, arith, inl, inr, Event, Setup, IsRun, stop_status, LooksAt, LooksAtGoodLines, IsGood, is_over, by_line, IsGoodTrace, IsRunStatus, EndsRun}
use Rattle.lawful_log.specs.Lawful.{IsAllowed, Leads, nowhere, by_entry, IsLawfulLog}
use Rattle.lawful_log.specs.State.{State}
use Rattle.machine_world.specs.Threads.{World}
use Rattle.schedule_log.specs.declared.entries.Entry.{Entry}
use Rattle.schedule_log.specs.declared.entries.StopLine.{StopLine}
use Rattle.schedule_log.specs.declared.entries.StopLine.TheVariants as stop
use Rattle.choice_rules.proofs.Points.{not_refused}
use Rattle.cap_word.specs.declared.stops.Stop.TheVariants as cut

-- ---- good lines

some_not_none : {P : Type 0} (bytes : List ℕ) → 0 < length bytes → bytes ≡ [] → P
some_not_none bytes some none = let long : length bytes ≡ 0 = ap length none in absurd (omega (arith, some, long))

-- a line is that of one event
one_event : (left : Trace) (event other : Event) → IsNext left (Some event) → IsNext left (Some other) → other ≡ event
one_event left event other a b = a.line.only other b.line.spells

-- ---- a good trace

next_of_good : (left : Trace) → IsGood left → (next : Option Event) × IsNext left next
next_of_good left (is_over over) = (None, over)
next_of_good left (by_line {event = event} line rest) = (Some event, line)

good_behind : (left : Trace) (event : Event) → IsGood left → IsNext left (Some event) → IsGood (behind left event)
good_behind left event (is_over over) line = some_not_none left.bytes line.some over
good_behind left event (by_line {event = other} first rest) line = subst (λ (e : Event). IsGood (behind left e)) (one_event left event other line first) rest

module _ (g : Setup) where
  -- what is left of the trace stays good
  kept : (before : State) (entry : Entry) (after : State) → IsAllowed g before entry after → IsGood before.trace → IsGood after.trace
  kept before (Entry.Run clock thread node) after h good = subst (λ (s : State). IsGood s.trace) (sym h.after_is) good
  kept before (Entry.Out thread value) after h good = subst (λ (s : State). IsGood s.trace) (sym h.after_is) good
  kept before (Entry.Block thread node key cost free) after h good = subst (λ (s : State). IsGood s.trace) (sym h.after_is) good
  kept before (Entry.End thread cost free) after h good = subst (λ (s : State). IsGood s.trace) (sym h.after_is) good
  kept before (Entry.Edge from to count cost changes) after h good = absurd h
  kept before (Entry.Stop line) after h good = absurd h
  kept before _ after h good =
      subst (λ (s : State). IsGood s.trace) (sym h.after_is) (good_behind before.trace h.event good h.delivery.point.next_is)

  kept_all : (before : State) (entries : List Entry) (after : State) → Leads g before entries after → IsGood before.trace → IsGood after.trace
  kept_all before entries after nowhere good = good
  kept_all before entries after (by_entry {between = between} {entry = entry} {entries = rest} one more) good = kept_all between rest after more (kept before entry between one good)

  good_looked : (trace : List ℕ) → IsGoodTrace trace → LooksAtGoodLines g trace
  good_looked trace good left looked =
      subst (λ (t : Trace). (next : Option Event) × IsNext t next) (sym looked.left_is)
      (next_of_good looked.state.trace (kept_all _ looked.entries looked.state looked.leads good))

  -- ---- the stop

  module _ (trace : List ℕ) (entries : List Entry) (end : World) (good : LooksAtGoodLines g trace) where
    among : (line : StopLine) → IsLawfulLog g trace entries line end → IsRunStatus (stop_status line)
    among stop.Done log = inl refl
    among stop.Idle log = inr (omega arith, omega arith)
    among (stop.Trace line) log =
        let bad = log.stops.0 in
        let looked : LooksAt g trace log.last.trace = record {
          start = log.start;
          starts = log.starts;
          entries = log.before_end;
          state = log.last;
          leads = log.leads;
          between = bad.between;
          live = bad.live;
          left_is = refl;
        } in
        let next = good log.last.trace looked in
        absurd (not_refused log.last.trace next.0 line next.1 bad.refused)
    among (stop.Cut thread (cut.Trap kind) cost free) log = inr (omega arith, omega arith)
    among (stop.Cut thread cut.NoChunk cost free) log = inr (omega arith, omega arith)
    among (stop.Cut thread cut.Fuel cost free) log = inr (omega arith, omega arith)
    among (stop.Cut thread cut.Threads cost free) log = inr (omega arith, omega arith)

    pub ends_run : (line : StopLine) (status : ℕ) → IsRun g trace entries line end → status ≡ stop_status line → EndsRun g trace entries line status
    ends_run line status run same = record { end = end; run = run; stopped = same; among = subst IsRunStatus (sym same) (among line run.lawful) }

pub looks_at_good_lines : (g : Setup) (trace : List ℕ) → IsGoodTrace trace → LooksAtGoodLines g trace
looks_at_good_lines = good_looked
