-- What the next line of the trace is to the run.
use Rattle.run_course.proofs.Common.{◌≡◌, ℕ, ◌+◌, ◌≤◌, List, [], ◌++◌, Option, Some, None, Ok, Err, inl, inr, refl, sym, ap, ◌∙◌, subst, arith, Event, TraceError, FitsEvent, rest_of, ReaderState, GivesEvent, RefusesLine, RefusesOrder, NextAnswers, NextTold, Trace, IsRefused, behind, Setup, State, IsBetween, between_read, Held, Next, Kept, known, IsTraceIn, IsTraceOf, IsRead, StandsBetween, Rest, BackTo, HasBytes, Knows, Unasked, Told, Made}
use Rattle.run_course.specs.Looks.{Sees, Refuses}
use Rattle.run_course.proofs.Spelled.{line_and, gives_line, behind_line, bad_line, refuses_bad_line}
use Rattle.run_course.proofs.Clocks.{clock_same}

abbrev trace_of : List ℕ → ℕ → ℕ → Trace
trace_of bytes lines last = record { bytes = bytes; lines = lines; last = last }

same_trace : (b c : List ℕ) (l m t u : ℕ) → b ≡ c → l ≡ m → t ≡ u → trace_of b l t ≡ trace_of c m u
same_trace b c l m t u p q r = ap (λ x. trace_of x l t) p ∙ ap (λ x. trace_of c x t) q ∙ ap (λ x. trace_of c m x) r

some_same : (a b : List ℕ) → Some a ≡ Some b → a ≡ b
some_same a b e = cc

-- ---- what was left before a line was read

-- the bytes that are left
abbrev pub rest_in : ReaderState → Rest → List ℕ
rest_in reader Unasked = []
rest_in reader (Told left) = reader.held ++ left
rest_in reader (Made bytes) = bytes

-- those that the source told, or else these
abbrev made_by : Option (List ℕ) → List ℕ → Rest
made_by None bytes = Made bytes
made_by (Some left) bytes = Told left

abbrev pub back : Rest → Option (List ℕ) → List ℕ → Rest
back Unasked told bytes = Unasked
back _ told bytes = made_by told bytes

knows_made : (told : Option (List ℕ)) (bytes : List ℕ) → Knows (made_by told bytes) told
knows_made None bytes = refl
knows_made (Some left) bytes = refl

pub knows_back : (after : Rest) (told : Option (List ℕ)) (bytes : List ℕ) → Knows (back after told bytes) told
knows_back Unasked told bytes = tt
knows_back _ told bytes = knows_made told bytes

has_made : (told : Option (List ℕ)) (bytes : List ℕ) → HasBytes (made_by told bytes)
has_made None bytes = tt
has_made (Some left) bytes = tt

pub has_back : (after : Rest) (told : Option (List ℕ)) (bytes : List ℕ) → HasBytes after → HasBytes (back after told bytes)
has_back Unasked told bytes has = has
has_back _ told bytes has = has_made told bytes

pub had_back : (after : Rest) (told : Option (List ℕ)) (bytes : List ℕ) → HasBytes (back after told bytes) → HasBytes after
had_back Unasked told bytes has = has
had_back _ told bytes has = tt

-- for every rest after it there is one before it, with these bytes
pub back_to : (told told' : Option (List ℕ)) (AreSuch : Rest → Rest → Type 0) (bytes : Rest → List ℕ) →
    ((after : Rest) → Knows after told' → AreSuch (back after told (bytes after)) after) → BackTo told told' AreSuch
back_to told told' AreSuch bytes such after knows = (
  back after told (bytes after),
  knows_back after told (bytes after),
  had_back after told (bytes after),
  has_back after told (bytes after),
  such after knows,
)

-- ---- the next line of the trace

-- it is refused
abbrev pub IsRefusal : TraceError → Type 0
IsRefusal TraceError.ReadFault = ⊥
IsRefusal _ = Unit {0}

module _ (trace : Trace) (old reader : ReaderState) where
  over_made : (told told' : Option (List ℕ)) → IsTraceOf trace old Next.Unread (made_by told []) → NextTold old reader told told' (Ok None) → trace.bytes ≡ []
  over_made None told' is next = ap (λ (t : Trace). t.bytes) is
  over_made (Some b) None is next = absurd next
  over_made (Some b) (Some a) is next = ap (λ (t : Trace). t.bytes) is ∙ next.0

  over_known : (after : Rest) (told told' : Option (List ℕ)) → IsTraceOf trace old Next.Unread (back after told []) → NextTold old reader told told' (Ok None) → IsTraceOf trace reader Next.Over after
  over_known Unasked told told' is next = tt
  over_known _ told told' is next = over_made told told' is next

  module _ (event : Event) (fits : FitsEvent event) (rises : old.last ≤ event.time) (counted : reader.lines ≤ 1000000) (lines : reader.lines ≡ old.lines + 1) (last : reader.last ≡ event.time) where
    -- the line of the event comes first, and then these
    event_in : (bytes rest : List ℕ) → trace ≡ trace_of bytes old.lines old.last → GivesEvent bytes old.lines old.last event → rest ≡ rest_of bytes → IsTraceIn trace reader (Next.Event event) rest
    event_in bytes rest here gives is = (
      subst (λ (t : Trace). GivesEvent t.bytes t.lines t.last event) (sym here) gives,
      ap (λ (t : Trace). behind t event) here
          ∙ same_trace (rest_of bytes) rest (old.lines + 1) reader.lines event.time reader.last (sym is) (sym lines) (sym last),
    )

    event_line : (rest : List ℕ) → trace ≡ trace_of (line_and event rest) old.lines old.last → IsTraceIn trace reader (Next.Event event) rest
    event_line rest here = event_in (line_and event rest) rest here (gives_line event rest old.lines old.last fits (let most = counted in let more = lines in omega (arith, most, more)) rises) (sym (behind_line event rest))

    event_known : (after : Rest) (told told' : Option (List ℕ)) → Knows after told' → IsTraceOf trace old Next.Unread (back after told (line_and event (rest_in reader after))) → NextTold old reader told told' (Ok (Some event)) →
        IsTraceOf trace reader (Next.Event event) after
    event_known Unasked told told' knows is next = tt
    event_known (Told left) None told' knows is next = event_line (reader.held ++ left) is
    event_known (Told left) (Some b) (Some a) knows is next =
        event_in (old.held ++ b) (reader.held ++ left) is next.0 (ap (λ (l : List ℕ). reader.held ++ l) (sym (some_same a left knows)) ∙ next.1)
    event_known (Made bytes) None told' knows is next = event_line bytes is
    event_known (Made bytes) (Some b) (Some a) knows is next = absurd (cc)
    event_known _ (Some b) None knows is next = absurd next

  -- a line is refused, of this number
  module _ (number : ℕ) (number_is : number ≡ old.lines + 1) where
    refused_told : (error : TraceError) (bytes : List ℕ) → trace ≡ trace_of bytes old.lines old.last → IsRefusal error → NextAnswers bytes old.lines old.last (Err error) → IsRefused trace number
    refused_told (TraceError.Line n) bytes here is next =
        inl (subst (λ (t : Trace). RefusesLine t.bytes t.lines number) (sym here) (record { some = next.some; number_is = number_is; spells_none = next.spells_none }))
    refused_told (TraceError.Order n time earlier) bytes here is next =
        inr (
          time,
          earlier,
          subst (λ (t : Trace). RefusesOrder t.bytes t.lines t.last number time earlier) (sym here)
              (record { some = next.some; counted = next.counted; number_is = number_is; earlier_is = next.earlier_is; falls = next.falls; kind = next.kind; line = next.line }),
        )
    refused_told TraceError.ReadFault bytes here is next = absurd is

    refused_made : (error : TraceError) (told told' : Option (List ℕ)) → IsTraceOf trace old Next.Unread (made_by told bad_line) → IsRefusal error → NextTold old reader told told' (Err error) → IsRefused trace number
    refused_made error None told' here is next = inl (subst (λ (t : Trace). RefusesLine t.bytes t.lines number) (sym here) (refuses_bad_line old.lines number number_is))
    refused_made error (Some b) None here is next = absurd next
    refused_made error (Some b) (Some a) here is next = refused_told error (old.held ++ b) here is next.0

    refused_known : (error : TraceError) (after : Rest) (told told' : Option (List ℕ)) → IsTraceOf trace old Next.Unread (back after told bad_line) → IsRefusal error → NextTold old reader told told' (Err error) →
        HasBytes (back after told bad_line) → IsRefused trace number
    refused_known error Unasked told told' here is next has = absurd has
    refused_known error _ told told' here is next has = refused_made error told told' here is next

module _ (g : Setup) (state : State) (k : Kept) (held : Held) (left : Rest) (stands : StandsBetween g state k held left) (unread : k.next ≡ Next.Unread) where
  between_unread : IsBetween g state None held.machine
  between_unread = subst (λ (n : Next). IsBetween g state (known n) held.machine) unread stands.between

  trace_unread : IsTraceOf state.trace k.reader Next.Unread left
  trace_unread = subst (λ (n : Next). IsTraceOf state.trace k.reader n left) unread stands.read.trace_is

  stands_read : (reader : ReaderState) (next : Next) (event : Option Event) (now : Rest) → known next ≡ Some event → IsRead state.trace reader next now → StandsBetween g state (record k { reader = reader; next = next }) held now
  stands_read reader next event now e read = record {
    of = stands.of;
    going = stands.going;
    between = subst (λ (n : Option (Option Event)). IsBetween g state n held.machine) (sym e) (between_read g state held.machine event between_unread);
    ended = stands.ended;
    settled = stands.settled;
    kept = stands.kept;
    needed = stands.needed;
    past = stands.past;
    gate = stands.gate;
    read = read;
  }

  pub machine_same : held.machine ≡ state.machine
  machine_same = clock_same state held.machine between_unread.machine_is between_unread.clock_is

-- ---- what a reader's answer is to the run

-- nothing was read of the trace that the reader held already: a look at a line that was looked at before
pub seen_before : (g : Setup) (state : State) (k : Kept) (held : Held) (left : Rest) (event : Option Event) → StandsBetween g state k held left → known k.next ≡ Some event → Sees g state k held left event
seen_before g state k held left event stands e = record { stands = stands; next_is = e }

module _ (g : Setup) (state : State) (k : Kept) (held : Held) (unread : k.next ≡ Next.Unread) (reader : ReaderState) (told told' : Option (List ℕ)) (after : Rest) where
  pub over_seen : StandsBetween g state k held (back after told []) → NextTold k.reader reader told told' (Ok None) → reader ≡ k.reader → Sees g state (record k { reader = reader; next = Next.Over }) held after None
  over_seen stands next kept = record {
    stands = stands_read g state k held (back after told []) stands unread reader Next.Over None after refl (record {
      trace_is = over_known state.trace k.reader reader after told told' (trace_unread g state k held (back after told []) stands unread) next;
      unrefused = ap (λ (r : ReaderState). r.refused) kept ∙ stands.read.unrefused;
      fits = tt;
    });
    next_is = refl;
  }

  pub event_seen : (event : Event) → Knows after told' → StandsBetween g state k held (back after told (line_and event (rest_in reader after))) → NextTold k.reader reader told told' (Ok (Some event)) →
      (reader.lines ≡ k.reader.lines + 1) × (reader.last ≡ event.time) × (reader.refused ≡ k.reader.refused) → FitsEvent event × (k.reader.last ≤ event.time) → reader.lines ≤ 1000000 →
      Sees g state (record k { reader = reader; next = Next.Event event }) held after (Some event)
  event_seen event knows stands next kept fits counted =
      let before : Rest = back after told (line_and event (rest_in reader after)) in
      record {
        stands = stands_read g state k held before stands unread reader (Next.Event event) (Some event) after refl (record {
          trace_is = event_known state.trace k.reader reader event fits.0 fits.1 counted kept.0 kept.1 after told told' knows (trace_unread g state k held before stands unread) next;
          unrefused = kept.2 ∙ stands.read.unrefused;
          fits = fits.0;
        });
        next_is = refl;
      }

  pub refused_seen : (error : TraceError) (number : ℕ) → StandsBetween g state k held (back after told bad_line) → IsRefusal error → NextTold k.reader reader told told' (Err error) → number ≡ k.reader.lines + 1 →
      Refuses g state (back after told bad_line) held number
  refused_seen error number stands is next number_is = record {
    refused = refused_known state.trace k.reader reader number number_is error after told told' (trace_unread g state k held (back after told bad_line) stands unread) is next;
    machine_is = machine_same g state k held (back after told bad_line) stands unread;
  }
