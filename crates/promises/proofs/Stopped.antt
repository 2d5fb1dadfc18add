-- The last line of a lawful reading is that of a stop, and its text says which status that has.
use Rattle.promises.proofs.Common.{◌≡◌, ◌∙◌, ℕ, List, [], ◌∷◌, ◌++◌, refl, sym, ap, subst, slice_index, Entry, StopLine, stop_status}
use Rattle.schedule_log.specs.EntryText.{entry_text}
use Rattle.std.specs.Prelude.{if◌then◌else◌, nat_eq}
use Rattle.capriccio_commands.specs.Summary.{last_from}
use Rattle.cap_word.specs.declared.stops.Stop.TheVariants as cut
use Rattle.lawful_reading.specs.Ends.{IsStop}
use Rattle.lawful_reading.specs.Given.{Given}
use Rattle.lawful_reading.specs.Reading.{IsAllowed, IsLawful, Leads, nowhere, by_line}
use Rattle.lawful_reading.specs.State.{State, End, NotYet, Edges, Stopped, start_of}

-- ---- the status of a stop's line

-- by the sixth, seventh and ninth byte of a line, which are in the word after `stop `
abbrev trap_or_trace : ℕ → ℕ
trap_or_trace byte = if nat_eq byte 112 then 11 else 4

abbrev threads_or_other : ℕ → ℕ → ℕ
threads_or_other second fourth = if nat_eq second 104 then 14 else trap_or_trace fourth

abbrev pub status_in : List ℕ → ℕ
status_in text =
    if nat_eq (slice_index text 5) 100 then 0 else
    if nat_eq (slice_index text 5) 105 then 10 else
    if nat_eq (slice_index text 5) 110 then 12 else
    if nat_eq (slice_index text 5) 102 then 13 else
    threads_or_other (slice_index text 6) (slice_index text 8)

pub status-told : (stop : StopLine) → status_in (entry_text (Entry.Stop stop)) ≡ stop_status stop
unfolding entry_text
status-told StopLine.Done = refl
status-told StopLine.Idle = refl
status-told (StopLine.Trace line) = refl
status-told (StopLine.Cut thread (cut.Trap kind) cost free) = refl
status-told (StopLine.Cut thread cut.NoChunk cost free) = refl
status-told (StopLine.Cut thread cut.Fuel cost free) = refl
status-told (StopLine.Cut thread cut.Threads cost free) = refl

-- ---- the last line

record IsStopLine (entry : Entry) : Type 0 where
  pub stop : StopLine
  pub is : entry ≡ Entry.Stop stop

still-going : {P : Type 0} (end : End) → end ≡ NotYet → end ≡ Stopped → P
still-going end fresh over = absurd (let no : NotYet ≡ Stopped = sym fresh ∙ over in cc)

-- no other line leads to the end
ends-by : (g : Given) (from to : State) (entry : Entry) → IsAllowed g from entry to → to.end ≡ Stopped → IsStopLine entry
ends-by g from to (Entry.Event clock item) is over = still-going to.end (ap (λ (s : State). s.end) is.after_is ∙ is.not_over) over
ends-by g from to (Entry.Dropped clock item) is over = still-going to.end (ap (λ (s : State). s.end) is.after_is ∙ is.not_over) over
ends-by g from to (Entry.Run clock thread node) is over = still-going to.end (ap (λ (s : State). s.end) is.after_is ∙ is.not_over) over
ends-by g from to (Entry.Out thread value) is over = still-going to.end (ap (λ (s : State). s.end) is.after_is ∙ is.not_over) over
ends-by g from to (Entry.Block thread node key cost free) is over = still-going to.end (ap (λ (s : State). s.end) is.after_is) over
ends-by g from to (Entry.End thread cost free) is over = still-going to.end (ap (λ (s : State). s.end) is.after_is) over
ends-by g from to (Entry.Edge from_node to_node count cost changes) is over =
    absurd (let no : Edges is.rest ≡ Stopped = sym (ap (λ (s : State). s.end) is.after_is) ∙ over in cc)
ends-by g from to (Entry.Stop stop) is over = record { stop = stop; is = refl }

-- a reading whose last line is that of a stop
pub record EndsSo (g : Given) (from : State) (entries : List Entry) : Type 0 where
  pub lines : List Entry
  pub stop : StopLine
  pub is : entries ≡ lines ++ Entry.Stop stop ∷ []
  pub before : State
  pub leads : Leads g from lines before
  pub after : State
  pub stops : IsStop g before stop after

ends-so : (g : Given) (from to : State) (first : Entry) (entries : List Entry) → Leads g from (first ∷ entries) to → to.end ≡ Stopped → EndsSo g from (first ∷ entries)
ends-so g from to first [] (by_line {between = between} fits allowed within nowhere) over =
    let line = ends-by g from between first allowed over in
    record {
      lines = [];
      stop = line.stop;
      is = ap (λ (e : Entry). e ∷ []) line.is;
      before = from;
      leads = nowhere;
      after = between;
      stops = subst (λ (e : Entry). IsAllowed g from e between) line.is allowed;
    }
ends-so g from to first (next ∷ entries) (by_line {between = between} fits allowed within rest) over =
    let more = ends-so g between to next entries rest over in
    record {
      lines = first ∷ more.lines;
      stop = more.stop;
      is = ap (λ (es : List Entry). first ∷ es) more.is;
      before = more.before;
      leads = by_line fits allowed within more.leads;
      after = more.after;
      stops = more.stops;
    }

some-so : (g : Given) (from to : State) (entries : List Entry) → Leads g from entries to → from.end ≡ NotYet → to.end ≡ Stopped → EndsSo g from entries
some-so g from to [] nowhere fresh over = still-going from.end fresh over
some-so g from to (first ∷ entries) leads fresh over = ends-so g from to first entries leads over

pub stops-of : (g : Given) (trace log : List ℕ) (lawful : IsLawful g trace log) → EndsSo g (start_of g trace) lawful.entries
stops-of g trace log lawful = some-so g (start_of g trace) lawful.last lawful.entries lawful.leads refl lawful.stopped

-- ---- its text

last-behind : (text : List ℕ) (entries : List Entry) (last : Entry) → last_from text (entries ++ last ∷ []) ≡ entry_text last
last-behind text [] last = refl
last-behind text (entry ∷ entries) last = last-behind (entry_text entry) entries last

pub last-so : (lines entries : List Entry) (stop : StopLine) → entries ≡ lines ++ Entry.Stop stop ∷ [] → last_from [] entries ≡ entry_text (Entry.Stop stop)
last-so lines entries stop is = ap (last_from []) is ∙ last-behind [] lines (Entry.Stop stop)
