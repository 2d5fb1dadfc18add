-- A choice point that goes on: the event that is next, and its delivery.
use Rattle.run_course.proofs.Common.{◌≡◌, ℕ, ◌+◌, ◌-◌, ◌*◌, ◌<◌, Bool, Option, Some, None, ap, ◌∙◌, arith, delivery_of, Event, EventKind, Setup, State, is_dropped, with_delivery, World, KeepsRun, Next, Kept, known, long_rank, lines_rank, next_rank, under_rank, IsAtPoint, Rest, after_event, Held}
use Rattle.run_course.proofs.Came.{same_cost, same_count}

known_event : (n : Next) (event : Event) → known n ≡ Some (Some event) → n ≡ Next.Event event
known_event (Next.Event other) event e = let same : other ≡ event = cc in ap Next.Event same
known_event _ event e = absurd (cc)

module _ (g : Setup) (state : State) (k : Kept) (held : Held) (left : Rest) (next : Option Event) (at : IsAtPoint g state k held left next) where
  pub resting : held.machine.running ≡ None
  resting = ap (λ (w : World). w.running) at.stands.between.machine_is ∙ at.stands.between.stands.between

  pub next_event : (event : Event) → next ≡ Some event → k.next ≡ Next.Event event
  next_event event e = known_event k.next event (at.known_is ∙ ap Some e)

-- ---- a delivery

module _ (held new : Held) (kind : EventKind) (is : new ≡ after_event held kind) where
  abbrev drops : Bool
  drops = is_dropped held.setting.backlog held.machine.exchange (delivery_of kind)

  cost_same : new.machine.cost ≡ held.machine.cost
  cost_same = ap (λ (h : Held). h.machine.cost) is ∙ same_cost drops held.machine (with_delivery held.machine.exchange (delivery_of kind))

  pub keeps_event : KeepsRun held new
  keeps_event = record {
    accepted = ap (λ (h : Held). h.accepted) is;
    setting = ap (λ (h : Held). h.setting) is;
    chunks = ap (λ (h : Held). h.machine.areas.pool.count) is ∙ same_count drops held.machine (with_delivery held.machine.exchange (delivery_of kind));
  }

  pub long_event : (k : Kept) → long_rank (record k { next = Next.Unread }) new ≡ long_rank k held
  long_event k = ap (λ (n : ℕ). 3 * (new.setting.fuel - n) + under_rank k.under) cost_same ∙ ap (λ (h : Held). 3 * (h.setting.fuel - held.machine.cost) + under_rank k.under) is

pub lines_event : (k : Kept) (event : Event) → k.next ≡ Next.Event event → lines_rank (record k { next = Next.Unread }) < lines_rank k
lines_event k event e = let two : next_rank k.next ≡ 2 = ap next_rank e in omega (arith, two)
