-- What comes at a choice point, and how the clock goes on.
use Rattle.run_course.proofs.Common.{◌≡◌, ◌≢◌, ℕ, ◌-◌, ◌≤◌, Bool, true, false, List, [], ◌∷◌, Some, None, refl, sym, ap, ◌∙◌, subst, arith, drop, if◌then◌else◌, nat_tests, Delivery, Arrival, Message, Exchange, is_dropped, with_delivery, Event, EventKind, FitsKind, FitsEvent, all_caps, uses_of, IsNext, behind, delivery_of, item_of, received, IsComing, checked_of, Checked, IsSettled, Setup, State, seen_of, come_state, drops, came, coming, between_came, IsBetween, Deliver, delivered, World, Setting, thread_of, DeliversWords, gate_after, pressures, after_event, Held, Next, Kept, known, IsTraceOf, FitsNext, HasPast, StandsBetween, Rest, HasBytes, Unasked, free_count}
use Rattle.c_mean.specs.World as source
use Rattle.run_course.proofs.Rules.{told_same}
use Rattle.run_course.proofs.Times.{timely_delivered}

words_of : (kind : EventKind) → FitsKind kind → DeliversWords (Deliver (delivery_of kind))
words_of (EventKind.Arrive value) fits = fits
words_of (EventKind.Message channel value) fits = fits.1

-- a delivery changes no use, no chunk and no count
pub same_cost : (b : Bool) (w : World) (x : Exchange) → (if b then w else record w { exchange = x }).cost ≡ w.cost
same_cost true w x = refl
same_cost false w x = refl

same_held : (b : Bool) (w : World) (x : Exchange) → let v : World = if b then w else record w { exchange = x } in v.areas.pool.count - free_count v.areas.pool ≡ w.areas.pool.count - free_count w.areas.pool
same_held true w x = refl
same_held false w x = refl

pub same_count : (b : Bool) (w : World) (x : Exchange) → (if b then w else record w { exchange = x }).areas.pool.count ≡ w.areas.pool.count
same_count true w x = refl
same_count false w x = refl

same_threads : (b : Bool) (w : World) (x : Exchange) (number : ℕ) → thread_of (if b then w else record w { exchange = x }) number ≡ thread_of w number
same_threads true w x number = refl
same_threads false w x number = refl

settled_by : (b : Bool) (c : Checked) (w : World) (x : Exchange) → IsSettled c w → IsSettled c (if b then w else record w { exchange = x })
settled_by true c w x is = is
settled_by false c w x is = record { between = is.between; threads = is.threads }

same_uses : (x : Exchange) (delivery : Delivery) → (with_delivery x delivery).uses ≡ x.uses
same_uses x (Arrival value) = refl
same_uses x (Message channel value) = refl

received_uses : (b : Bool) (w : source.World) (delivery : Delivery) → (received b w delivery).exchange.uses ≡ w.exchange.uses
received_uses true w delivery = refl
received_uses false w delivery = same_uses w.exchange delivery

module _ (g : Setup) (state : State) (k : Kept) (held : Held) (left : Rest) (stands : StandsBetween g state k held left) (event : Event) (next_is : k.next ≡ Next.Event event) where
  fits : FitsEvent event
  fits = subst FitsNext next_is stands.read.fits

  pub words : DeliversWords (Deliver (delivery_of event.kind))
  words = words_of event.kind fits.kind

  pub between : IsBetween g state (Some (Some event)) held.machine
  between = subst (λ (n : Next). IsBetween g state (known n) held.machine) next_is stands.between

  abbrev pub came_state : State
  came_state = come_state g state event held.machine between words

  abbrev pub came_world : World
  came_world = came g state event held.machine between words

  pub machine_is : (after_event held event.kind).machine ≡ came_world
  machine_is = ap (λ (s : Setting). delivered s held.machine (delivery_of event.kind)) stands.of.setting

  uses_same : uses_of (seen_of came_state) ≡ uses_of (seen_of state)
  uses_same =
      let held_same = same_held (is_dropped g.policy.backlog held.machine.exchange (delivery_of event.kind)) held.machine (with_delivery held.machine.exchange (delivery_of event.kind)) in
      let before : held.machine.areas.pool.count - free_count held.machine.areas.pool ≡ state.machine.areas.pool.count - free_count state.machine.areas.pool = ap (λ (w : World). w.areas.pool.count - free_count w.areas.pool) between.machine_is in
      ap (λ (n : ℕ). n ∷ drop 1 came_state.source.exchange.uses) (held_same ∙ before)
      ∙ ap (λ (l : List ℕ). (state.machine.areas.pool.count - free_count state.machine.areas.pool) ∷ drop 1 l)
      (received_uses (drops g state event held.machine between words) state.source (delivery_of event.kind))

  trace_on : (left : Rest) → IsTraceOf state.trace k.reader (Next.Event event) left → IsTraceOf (behind state.trace event) k.reader Next.Unread left
  trace_on Unasked t = tt
  trace_on _ t = t.1

  next_told : (left : Rest) → HasBytes left → IsTraceOf state.trace k.reader (Next.Event event) left → IsNext state.trace (Some event)
  next_told Unasked told t = absurd told
  next_told _ told t = t.0

  pub came_allowed : held.machine.threads ≢ [] → event.time ≤ held.machine.clock → HasBytes left → IsComing g state held.machine.clock (item_of event.kind) (drops g state event held.machine between words) came_state
  came_allowed live due told =
      coming g state event held.machine between words live (next_told left told (subst (λ (n : Next). IsTraceOf state.trace k.reader n left) next_is stands.read.trace_is))
      (let h : event.time ≤ held.machine.clock = due in grind (arith, nat_tests, h))

  pub came_stands : StandsBetween g came_state (record k { next = Next.Unread }) (after_event held event.kind) left
  came_stands = record {
    of = record {
      program = stands.of.program;
      image = stands.of.image;
      certificate = stands.of.certificate;
      setting = stands.of.setting;
      chunks = ap (λ (w : World). w.areas.pool.count) machine_is
          ∙ same_count (is_dropped g.policy.backlog held.machine.exchange (delivery_of event.kind)) held.machine (with_delivery held.machine.exchange (delivery_of event.kind)) ∙ stands.of.chunks;
      small = stands.of.small;
      scoped = stands.of.scoped;
      valid = stands.of.valid;
      timely = timely_delivered held.setting held.machine (delivery_of event.kind) stands.of.timely;
    };
    going = stands.going;
    between = subst (λ (w : World). IsBetween g came_state None w) (sym machine_is) (between_came g state event held.machine between words);
    ended = λ none. ap (λ (w : World). w.clock) machine_is;
    settled = subst (IsSettled (checked_of g)) (sym machine_is)
        (settled_by (is_dropped g.policy.backlog held.machine.exchange (delivery_of event.kind)) (checked_of g) held.machine (with_delivery held.machine.exchange (delivery_of event.kind)) stands.settled);
    kept = stands.kept;
    needed = told_same held.machine (after_event held event.kind).machine k.rule
        (same_threads (is_dropped held.setting.backlog held.machine.exchange (delivery_of event.kind)) held.machine (with_delivery held.machine.exchange (delivery_of event.kind))) stands.needed;
    past = subst (λ (n : ℕ). HasPast g state.past k.rule k.graph k.monitor n n)
        (sym (ap (λ (w : World). w.cost) machine_is
        ∙ same_cost (is_dropped g.policy.backlog held.machine.exchange (delivery_of event.kind)) held.machine (with_delivery held.machine.exchange (delivery_of event.kind)))) stands.past;
    gate = ap (λ (l : List ℕ). gate_after g.policy.high g.policy.low k.monitor.is_open (pressures g.policy.curves l (all_caps g.policy))) uses_same ∙ stands.gate;
    read = record {
      trace_is = trace_on left (subst (λ (n : Next). IsTraceOf state.trace k.reader n left) next_is stands.read.trace_is);
      unrefused = stands.read.unrefused;
      fits = tt;
    };
  }
