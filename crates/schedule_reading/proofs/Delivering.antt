-- A line of what comes from outside.
use Rattle.schedule_reading.proofs.Common.{◌≡◌, ℕ, Bool, true, false, List, ◌∷◌, ◌++◌, drop, length, Option, Some, None, if◌then◌else◌, refl, sym, ap, ◌∙◌, subst, arith, nat_tests, Delivery, Arrival, Message, Exchange, is_dropped, with_delivery, is_open, IsChoicePoint, is_due, delivery_of, item_of, coming_entry, all_caps, Trace, behind, one_clock, ReaderState, Event, IsComing, Given, IsAllowed, IsBeyond, State, seen_of, gate_after, pressures, Entry, Item, Exchanging, after_delivery, Next, Core, Kept, Allows, Comes, Knows, Refuses, IsEnd, IsLooked, IsTold, IsTraceOf, StandsAt, StandsBy, StandsUnless}
use Rattle.choice_rules.specs.Deliveries as rules
use Rattle.lawful_reading.specs.State as reading
use Rattle.schedule_reading.specs.declared.reading.End.TheVariants as end
use Rattle.schedule_reading.specs.declared.reading.Next.TheVariants as next
use Rattle.schedule_reading.proofs.Keeping.{of_with, past_with, same_monitor}

-- ---- lines

coming_is : (g : Given) (state : State) (clock : ℕ) (item : Item) (drops : Bool) (after : State) → IsComing g state clock item drops after → IsAllowed g state (coming_entry drops clock item) after
coming_is g state clock item true after is = is
coming_is g state clock item false after is = is

is_coming : (g : Given) (state : State) (clock : ℕ) (item : Item) (drops : Bool) (after : State) → IsAllowed g state (coming_entry drops clock item) after → IsComing g state clock item drops after
is_coming g state clock item true after is = is
is_coming g state clock item false after is = is

pub not_beyond : (g : Given) (state : State) (entry : Entry) → state.segment ≡ None → IsBeyond g state entry → ⊥
not_beyond g state entry none b = absurd (let no : None ≡ Some b.segment = sym none ∙ b.under_way in cc)

-- ---- what doesn't come

-- nothing else than the next event comes
pub other_refused : (g : Given) (state : State) (clock : ℕ) (item : Item) (drops : Bool) → state.segment ≡ None → ((after : State) → IsComing g state clock item drops after → ⊥) → Refuses g state (coming_entry drops clock item)
other_refused g state clock item drops none never = record {
  refused = λ after allowed. never after (is_coming g state clock item drops after allowed);
  enough = not_beyond g state (coming_entry drops clock item) none;
}

same_event : (a b : Event) → ◌≡◌ {A = Option Event} (Some a) (Some b) → a ≡ b
same_event a b e = cc

module _ (g : Given) (state : State) (event : Event) (now : ℕ) (point : IsChoicePoint g.policy (seen_of state) (Some event) now) where
  module _ (clock : ℕ) (item : Item) (drops : Bool) (after : State) (is : IsComing g state clock item drops after) where
    both : (◌≡◌ {A = Option Event} (Some event) (Some is.event)) × (now ≡ clock)
    both = one_clock g.policy (seen_of state) (Some event) (Some is.event) now clock point is.delivery.point

    pub its_clock : clock ≡ now
    its_clock = sym both.1

    its_event : is.event ≡ event
    its_event = sym (same_event event is.event both.0)

    pub its_item : item ≡ item_of event.kind
    its_item = is.delivery.item_is ∙ ap (λ (e : Event). item_of e.kind) its_event

    pub its_drops : drops ≡ is_dropped g.policy.backlog state.source.exchange (delivery_of event.kind)
    its_drops = is.delivery.drops_is ∙ ap (λ (e : Event). is_dropped g.policy.backlog state.source.exchange (delivery_of e.kind)) its_event

-- ---- what they meet changes

uses_with : (x : Exchange) (d : Delivery) → (with_delivery x d).uses ≡ x.uses
uses_with x (Arrival value) = refl
uses_with x (Message channel value) = refl

-- the reading stands where something has come
stands_with : (g : Given) (state : State) (k : Core) (clock : ℕ) (trace : Trace) (x : Exchange) (y : Exchanging) → StandsAt g state clock k → y.exchange ≡ x → y.caps ≡ k.threads.exchange.caps → y.backlog ≡ k.threads.exchange.backlog →
    x.uses ≡ state.source.exchange.uses →
    StandsAt g (record state { clock = clock; source = record state.source { exchange = x }; trace = trace }) clock (record k { threads = record k.threads { exchange = y } })
stands_with g state k clock trace x y s e caps backlog uses = record {
  of = of_with g k (record k { threads = record k.threads { exchange = y } }) refl refl caps backlog (same_monitor k.monitor) s.of;
  counted = record { cost = s.counted.cost; most_cost = s.counted.most_cost; free = s.counted.free; held = s.counted.held; left = s.counted.left; starts = s.counted.starts };
  between = s.between;
  clock_is = s.clock_is;
  later = omega arith;
  threads = record { exchange_is = e; uses = ap (λ (us : List ℕ). length us) uses ∙ s.threads.uses; count = s.threads.count; live = s.threads.live; are = s.threads.are };
  resting = s.resting;
  globals = s.globals;
  full = s.full;
  scheduled = s.scheduled;
  past = past_with state.past k (record k { threads = record k.threads { exchange = y } }) k.cost k.cost refl refl s.past;
  gate = subst (λ (us : List ℕ). gate_after g.policy.high g.policy.low k.monitor.is_open (pressures g.policy.curves (state.held ∷ drop 1 us) (all_caps g.policy)) ≡ is_open g.policy state.past) (sym uses) s.gate;
  timely = record { clock_is = s.timely.clock_is; sleepers = s.timely.sleepers };
}

-- ---- the next event comes

trace_behind : (trace : Trace) (reader : ReaderState) (n : Next) (event : Event) (told : Option (List ℕ)) → Knows n (Some event) → IsTraceOf trace reader n told → IsTraceOf (behind trace event) reader next.Unread told
trace_behind trace reader n event None knows is = absurd is
trace_behind trace reader (next.Event other) event (Some left) knows is = subst (λ (e : Event). behind trace e ≡ record { bytes = reader.held ++ left; lines = reader.lines; last = reader.last }) knows is.1
trace_behind trace reader _ event (Some left) knows is = absurd knows

refused_none : (reader : ReaderState) (n : Next) (event : Event) → Knows n (Some event) → IsLooked reader n → IsLooked reader next.Unread
refused_none reader (next.Event other) event knows looked = looked.1
refused_none reader _ event knows looked = absurd knows

module _ (g : Given) (state : State) (old k : Kept) (told told' : Option (List ℕ)) (event : Event) (comes : Comes g state old told event k told') (between : state.end ≡ reading.NotYet) (item : Item) (drops : Bool)
    (item_is : item ≡ item_of event.kind) (drops_is : drops ≡ is_dropped k.core.threads.exchange.backlog k.core.threads.exchange.exchange (delivery_of event.kind)) where
  abbrev now : ℕ
  now = k.core.threads.waits.clock

  abbrev d : Delivery
  d = delivery_of event.kind

  abbrev x : Exchanging
  x = k.core.threads.exchange

  abbrev after : State
  after = record state { clock = now; source = rules.received drops state.source d; trace = behind state.trace event }

  s : StandsAt g state now k.core
  s = comes.goes.stands

  drops_of : drops ≡ is_dropped g.policy.backlog state.source.exchange d
  drops_of = drops_is ∙ ap (λ (n : ℕ). is_dropped n x.exchange d) s.of.backlog ∙ ap (λ (e : Exchange). is_dropped g.policy.backlog e d) s.threads.exchange_is

  allowed : IsTold state old told → IsComing g state now item drops after
  allowed is = record {
    not_over = between;
    event = event;
    delivery = record {
      point = comes.goes.point is;
      due = (let due = comes.due in grind (arith, nat_tests, due));
      item_is = item_is;
      drops_is = drops_of;
    };
    after_is = refl;
  }

  -- what they meet then
  abbrev new_core : Core
  new_core = record k.core { threads = record k.core.threads { exchange = after_delivery x d } }

  same_caps : (b : Bool) → (if b then x else record x { exchange = with_delivery x.exchange d }).caps ≡ x.caps
  same_caps true = refl
  same_caps false = refl

  same_backlog : (b : Bool) → (if b then x else record x { exchange = with_delivery x.exchange d }).backlog ≡ x.backlog
  same_backlog true = refl
  same_backlog false = refl

  stands_by : (b : Bool) → drops ≡ b → StandsAt g (record state { clock = now; source = rules.received b state.source d; trace = behind state.trace event }) now new_core
  stands_by true e = stands_with g state k.core now (behind state.trace event) state.source.exchange (after_delivery x d) s
      (ap (λ (c : Bool). (if c then x else record x { exchange = with_delivery x.exchange d }).exchange) (sym drops_is ∙ e) ∙ s.threads.exchange_is)
      (same_caps (is_dropped x.backlog x.exchange d)) (same_backlog (is_dropped x.backlog x.exchange d)) refl
  stands_by false e = stands_with g state k.core now (behind state.trace event) (with_delivery state.source.exchange d) (after_delivery x d) s
      (ap (λ (c : Bool). (if c then x else record x { exchange = with_delivery x.exchange d }).exchange) (sym drops_is ∙ e) ∙ ap (λ (z : Exchange). with_delivery z d) s.threads.exchange_is)
      (same_caps (is_dropped x.backlog x.exchange d)) (same_backlog (is_dropped x.backlog x.exchange d)) (uses_with state.source.exchange d)

  new_stands : StandsAt g after now new_core
  new_stands = subst (λ (b : Bool). StandsAt g (record state { clock = now; source = rules.received b state.source d; trace = behind state.trace event }) now new_core) refl (stands_by drops refl)

  abbrev new_kept : Kept
  new_kept = record k { core = new_core; next = next.Unread }

  pub comes_allowed : k.under ≡ None → k.end ≡ end.NotYet → Allows g state old (coming_entry drops now item) told new_kept told'
  comes_allowed none not_yet = record {
    after = after;
    allowed = λ t. coming_is g state now item drops after (allowed t);
    within = let left = s.counted.left in omega (arith, left);
    stands = record {
      end_is = subst (IsEnd g after) (sym not_yet) between;
      stands = subst (StandsUnless g after new_kept) (sym not_yet)
          (subst (StandsBy g after new_core) (sym none) new_stands, refused_none k.reader k.next event comes.goes.known_is comes.goes.looked);
    };
    trace = λ t. trace_behind state.trace k.reader k.next event told' comes.goes.known_is (comes.goes.trace t);
  }

-- it isn't one that is dropped so
pub other_drops : (g : Given) (state : State) (old k : Kept) (told told' : Option (List ℕ)) (event : Event) (comes : Comes g state old told event k told') (clock : ℕ) (item : Item) (drops : Bool) →
    (drops ≡ is_dropped k.core.threads.exchange.backlog k.core.threads.exchange.exchange (delivery_of event.kind) → ⊥) → IsTold state old told → Refuses g state (coming_entry drops clock item)
other_drops g state old k told told' event comes clock item drops never is =
    let s = comes.goes.stands in
    other_refused g state clock item drops s.between (λ after coming.
    never (its_drops g state event k.core.threads.waits.clock (comes.goes.point is) clock item drops after coming
    ∙ sym (ap (λ (n : ℕ). is_dropped n k.core.threads.exchange.exchange (delivery_of event.kind)) s.of.backlog ∙ ap (λ (e : Exchange). is_dropped g.policy.backlog e (delivery_of event.kind)) s.threads.exchange_is)))

-- ---- something else has to come

-- where the reading halts, or a thread is to be chosen, no event is due that comes
pub none_comes : (g : Given) (state : State) (clock : ℕ) (item : Item) (drops : Bool) → state.segment ≡ None → ((event : Event) → IsChoicePoint g.policy (seen_of state) (Some event) clock → is_due (Some event) clock ≡ true → ⊥) → Refuses g state (coming_entry drops clock item)
none_comes g state clock item drops none never = other_refused g state clock item drops none (λ after is. never is.event is.delivery.point is.delivery.due)
