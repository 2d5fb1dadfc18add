-- What has to come at a choice point, by what was tested there; and what is kept where the clock was moved.
use Rattle.schedule_reading.proofs.Common.{◌≡◌, ℕ, ◌^◌, ◌<◌, ◌≤◌, false, List, ◌∷◌, ◌++◌, Option, Some, None, sym, ap, ◌∙◌, subst, arith, IsLeastOf, event_times, is_due, waking_times, past_not, ReaderState, Event, Given, State, seen_of, IsWake, Next, Kept, Comes, ComesToChoice, GoesOnFrom, IsPoint, Knows, IsLooked, StandsAt, ThreadsState, any_ready_in, le_no}
use Rattle.event_trace.specs.Lines.{FitsEvent}
use Rattle.thread_waits.specs.Waiting as waits_of
use Rattle.schedule_reading.specs.declared.points.Point.TheVariants as point
use Rattle.schedule_reading.specs.declared.reading.Next.TheVariants as next
use Rattle.schedule_reading.proofs.Waking.{at_clock, comes_then, idles, in_time, later, least, least_alone, least_first, least_later, nobody_wakes, possible, wakes_one}

-- ---- what is kept with other threads

abbrev pub with_threads : Kept → ThreadsState → Kept
with_threads k threads = record k { core = record k.core { threads = threads } }

abbrev pub moved_to : ThreadsState → ℕ → ThreadsState
moved_to threads time = record threads { waits = record threads.waits { clock = time } }

pub at_time : (view k : Kept) → view ≡ k → (threads : ThreadsState) (time : ℕ) → threads ≡ moved_to view.core.threads time → with_threads view threads ≡ at_clock k time
at_time view k same threads time moved = ap (λ (t : ThreadsState). with_threads view t) moved ∙ ap (λ (x : Kept). at_clock x time) same

-- what is waited for, by the fields of what is kept
pub wake_as : (view k : Kept) → view ≡ k → (wake other : Option ℕ) → wake ≡ other → IsWake view.core.threads.exchange.caps view.core.threads.exchange.exchange view.core.threads.waits wake →
    IsWake k.core.threads.exchange.caps k.core.threads.exchange.exchange k.core.threads.waits other
wake_as view k same wake other is w =
    subst (λ (o : Option ℕ). IsWake k.core.threads.exchange.caps k.core.threads.exchange.exchange k.core.threads.waits o) is
    (subst (λ (x : Kept). IsWake x.core.threads.exchange.caps x.core.threads.exchange.exchange x.core.threads.waits wake) same w)

-- ---- the next line was looked at

pub live_still : (view k new : Kept) → view ≡ k → new ≡ record k { reader = new.reader; next = new.next } → (n : ℕ) → n ≡ view.core.threads.live → (n ≡ 0 → ⊥) → 0 < new.core.threads.live
live_still view k new same looked n is some =
    let before = ap (λ (x : Kept). x.core.threads.live) same in
    let after = ap (λ (x : Kept). x.core.threads.live) looked in
    grind (arith, is, some, before, after)

pub stands_still : (g : Given) (state : State) (k new : Kept) → new ≡ record k { reader = new.reader; next = new.next } → StandsAt g state state.clock k.core → StandsAt g state state.clock new.core
stands_still g state k new looked stands = subst (λ (x : Kept). StandsAt g state state.clock x.core) (sym looked) stands

pub goes_looked : (g : Given) (state : State) (k new : Kept) (known : Option Event) → new ≡ record k { reader = new.reader; next = new.next } → StandsAt g state state.clock k.core → IsLooked new.reader new.next → Knows new.next known → 0 < new.core.threads.live →
    GoesOnFrom g state new known
goes_looked g state k new known same stands looked knows live = ((stands_still g state k new same stands, looked), knows, live)

-- ---- times

pub none_due : (known : Option Event) (clock : ℕ) → known ≡ None → is_due known clock ≡ false
none_due known clock none = ap (λ (o : Option Event). is_due o clock) none

pub some_not_due : (known : Option Event) (clock : ℕ) (event : Event) → known ≡ Some event → clock < event.time → is_due known clock ≡ false
some_not_due known clock event is later = ap (λ (o : Option Event). is_due o clock) is ∙ le_no event.time clock later

pub fits_known : (reader : ReaderState) (n : Next) (event : Event) → Knows n (Some event) → IsLooked reader n → FitsEvent event
fits_known reader (next.Event other) event knows looked = subst FitsEvent knows looked.0
fits_known reader _ event knows looked = absurd knows

-- ---- where no thread is ready

module _ (g : Given) (state : State) (k : Kept) (known : Option Event) (from : GoesOnFrom g state k known)
    (not_due : is_due known k.core.threads.waits.clock ≡ false) (unready : any_ready_in k.core.threads ≡ false) where
  abbrev Wakes : Option ℕ → Type 0
  Wakes wake = IsWake k.core.threads.exchange.caps k.core.threads.exchange.exchange k.core.threads.waits wake

  pub wake_later : (time : ℕ) → Wakes (Some time) → k.core.threads.waits.clock ≤ time
  wake_later time wake = later g state k known from not_due unready time wake

  pub wake_early : (time : ℕ) → Wakes (Some time) → time ≤ waits_of.latest
  wake_early time wake = in_time g state k known from not_due unready time (possible g state k known from not_due unready time wake)

  module _ (event : Event) (is : known ≡ Some event) where
    fits : FitsEvent event
    fits = fits_known k.reader k.next event (subst (λ (o : Option Event). Knows k.next o) is from.1) from.0.1

    pub event_later : k.core.threads.waits.clock ≤ event.time
    event_later =
        let after = past_not event.time k.core.threads.waits.clock (ap (λ (o : Option Event). is_due o k.core.threads.waits.clock) (sym is) ∙ not_due) in
        omega (arith, after)

    event_early : event.time ≤ 10 ^ 15
    event_early = fits.time

  module _ (told : Option (List ℕ)) where
    pub idle_point : known ≡ None → Wakes None → IsPoint g state k told k told point.Idle
    idle_point none wake = idles g state k known from not_due unready told none wake

    module _ (new : Kept) where
      choice_at : (time : ℕ) → new ≡ at_clock k time → ComesToChoice g state k told (at_clock k time) told → IsPoint g state k told new told point.Choice
      choice_at time same c = subst (λ (m : Kept). ComesToChoice g state k told m told) (sym same) c

      comes_at : (event : Event) → new ≡ at_clock k event.time → Comes g state k told event (at_clock k event.time) told → IsPoint g state k told new told (point.Comes event)
      comes_at event same c = subst (λ (m : Kept). Comes g state k told event m told) (sym same) c

      times_of : (other : Option Event) (time : ℕ) → known ≡ other → IsLeastOf (event_times other ++ waking_times (seen_of state)) time → IsLeastOf (event_times known ++ waking_times (seen_of state)) time
      times_of other time is first = subst (λ (o : Option Event). IsLeastOf (event_times o ++ waking_times (seen_of state)) time) (sym is) first

      -- a sleeper wakes, and nothing comes
      pub wakes_alone : (time : ℕ) → known ≡ None → Wakes (Some time) → new ≡ at_clock k time → IsPoint g state k told new told point.Choice
      wakes_alone time none wake same = choice_at time same
          (wakes_one g state k known from not_due unready told time wake (times_of None time none (least g state k known from not_due unready time wake)) (none_due known time none))

      -- the next event comes, and nobody sleeps
      pub comes_alone : (event : Event) → known ≡ Some event → Wakes None → new ≡ at_clock k event.time → IsPoint g state k told new told (point.Comes event)
      comes_alone event is wake same = comes_at event same
          (comes_then g state k known from not_due unready told event is (event_later event is) (event_early event is)
          (times_of (Some event) event.time is (subst (λ (times : List ℕ). IsLeastOf (event.time ∷ times) event.time) (sym (nobody_wakes g state k known from not_due unready wake)) (least_alone event.time))))

      -- it comes before a sleeper wakes
      pub comes_first : (event : Event) (time : ℕ) → known ≡ Some event → Wakes (Some time) → event.time ≤ time → new ≡ at_clock k event.time → IsPoint g state k told new told (point.Comes event)
      comes_first event time is wake before same = comes_at event same
          (comes_then g state k known from not_due unready told event is (event_later event is) (event_early event is)
          (times_of (Some event) event.time is (least_first event.time (waking_times (seen_of state)) time (least g state k known from not_due unready time wake) before)))

      -- or behind it
      pub wakes_first : (event : Event) (time : ℕ) → known ≡ Some event → Wakes (Some time) → time < event.time → new ≡ at_clock k time → IsPoint g state k told new told point.Choice
      wakes_first event time is wake before same = choice_at time same
          (wakes_one g state k known from not_due unready told time wake
          (times_of (Some event) time is (least_later event.time (waking_times (seen_of state)) time (least g state k known from not_due unready time wake) (omega (arith, before))))
          (some_not_due known time event is before))
