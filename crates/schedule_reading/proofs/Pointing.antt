-- A choice point: what has to come, by what is kept.
use Rattle.schedule_reading.proofs.Common.{◌≡◌, ◌≢◌, ℕ, ◌<◌, ◌||◌, Bool, true, false, List, ◌++◌, Option, Some, None, refl, sym, ap, ◌∙◌, subst, arith, is_some, list_any, Exchange, IsChoicePoint, is_due, any_ready, Trace, IsNext, clock_stays, ReaderState, Event, Given, Next, Core, Kept, IsTold, IsTraceIn, IsTraceOf, StandsAt, any_ready_in, or_right}
use Rattle.lawful_reading.specs.State.{Segment, State, seen_of}
use Rattle.thread_waits.specs.Waiting as waits_of
use Rattle.schedule_reading.specs.declared.reading.Next.TheVariants as next
use Rattle.schedule_reading.specs.Rulings.{ComesToChoice, Goes, GoesOnFrom, Knows}
use Rattle.schedule_reading.proofs.Any.{any_ready_same}

-- ---- the next line

next_in : (trace : Trace) (reader : ReaderState) (n : Next) (known : Option Event) (bytes : List ℕ) → Knows n known → IsTraceIn trace reader n bytes → IsNext trace known
next_in trace reader (next.Event event) (Some other) bytes e is = subst (λ (v : Event). IsNext trace (Some v)) e is.0
next_in trace reader next.Over None bytes e is = is
next_in trace reader _ _ bytes e is = absurd e

pub next_of : (trace : Trace) (reader : ReaderState) (n : Next) (known : Option Event) (left : Option (List ℕ)) → Knows n known → IsTraceOf trace reader n left → IsNext trace known
next_of trace reader n known None e is = absurd is
next_of trace reader n known (Some left) e is = next_in trace reader n known (reader.held ++ left) e is

-- ---- between segments

abbrev is_some_segment : Option Segment → Bool
is_some_segment o = is_some o

module _ (g : Given) (state : State) (clock : ℕ) (k : Core) (stands : StandsAt g state clock k) where
  -- some thread is ready, by the places and by those that wait
  pub ready_same : any_ready_in k.threads ≡ any_ready g.policy (seen_of state) clock
  ready_same =
      ap (λ (caps : List ℕ). list_any (waits_of.is_ready_in caps k.threads.exchange.exchange k.threads.waits.clock) k.threads.waits.places) stands.of.exchange_caps
      ∙ ap (λ (x : Exchange). list_any (waits_of.is_ready_in g.policy.caps x k.threads.waits.clock) k.threads.waits.places) stands.threads.exchange_is
      ∙ ap (λ (n : ℕ). list_any (waits_of.is_ready_in g.policy.caps state.source.exchange n) k.threads.waits.places) stands.clock_is
      ∙ any_ready_same g.program k.threads.slots k.threads.waits.places state.source.threads state.waiting stands.threads.are g.policy.caps state.source.exchange clock

  none_is : (o : Option Segment) → o ≡ None → is_some_segment o ≡ false
  none_is None e = refl
  none_is (Some segment) e = absurd (cc)

  pub between_is : (seen_of state).under_way ≡ false
  between_is = none_is state.segment stands.between

  pub live_is : 0 < k.threads.live → (seen_of state).live ≢ 0
  live_is some e = let same = stands.threads.live in omega (arith, some, same, e)

  pub here : StandsAt g state k.threads.waits.clock k
  here = subst (λ (n : ℕ). StandsAt g state n k) (sym stands.clock_is) stands

-- ---- something goes on at the clock

module _ (g : Given) (state : State) (k : Kept) (told : Option (List ℕ)) (known : Option Event) (from : GoesOnFrom g state k known) where
  pub stands : StandsAt g state state.clock k.core
  stands = from.0.0

  pub point_here : (clock : ℕ) → clock ≡ state.clock → (is_due known state.clock || any_ready g.policy (seen_of state) state.clock) ≡ true → IsTold state k told → IsChoicePoint g.policy (seen_of state) known clock
  point_here clock same goes is = record {
    between = between_is g state state.clock k.core stands;
    live = live_is g state state.clock k.core stands from.2;
    next_is = next_of state.trace k.reader k.next known told from.1 is;
    clock_is = clock_stays (is_due known state.clock || any_ready g.policy (seen_of state) state.clock) (seen_of state) known clock goes same;
  }

  goes_here : (is_due known state.clock || any_ready g.policy (seen_of state) state.clock) ≡ true → Goes g state k told known k told
  goes_here goes = record {
    stands = here g state state.clock k.core stands;
    looked = from.0.1;
    known_is = from.1;
    point = point_here k.core.threads.waits.clock stands.clock_is goes;
    trace = λ is. is;
  }

  -- a thread is ready
  pub chooses_now : is_due known k.core.threads.waits.clock ≡ false → any_ready_in k.core.threads ≡ true → ComesToChoice g state k told k told
  chooses_now not_due ready = record {
    known = known;
    goes = goes_here (or_right (is_due known state.clock) (any_ready g.policy (seen_of state) state.clock) (sym (ready_same g state state.clock k.core stands) ∙ ready));
    not_due = not_due;
    ready = ready;
  }
