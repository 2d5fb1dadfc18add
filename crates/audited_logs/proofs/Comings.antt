-- What comes from outside, in a lawful log and in its reading.
use Rattle.audited_logs.proofs.Common.{◌≡◌, ℕ, ◌-◌, Bool, true, false, cond, Some, refl, sym, ap, ◌∙◌, subst, arith, Delivery, is_dropped, with_delivery, delivery_of, received, IsDelivery, Seen, behind, free_count, checked_of, Setup, setting_of, State, held_chunks, Areas, Action, Deliver, Advance, after_action, World, IsWellFormedIf, DeliversWords, IsWellFormedIf-action, Item, StandsSettled, delivered_law, advanced_law, given_of, delivers_words}
use Rattle.c_mean.specs.World as source
use Rattle.lawful_log.specs.Deliveries as log
use Rattle.lawful_reading.specs.Choice as reading
use Rattle.lawful_reading.specs.State as reading_state
use Rattle.audited_logs.proofs.Acts.{Acted, two, advances, delivers}
use Rattle.audited_logs.proofs.Beside.{Holds, Rests, Position, Between, Within, between_at, between_of, same_seen, not_within}
use Rattle.audited_logs.proofs.Policies.{delivery_read}

-- what holds of a world holds after an action between segments
pub holds_after : (g : Setup) (w after : World) (action : Action) (clock : ℕ) → DeliversWords action → Holds g w → after_action (setting_of g) w action ≡ Some after → Acted w after clock → Holds g after
holds_after g w after action clock words holds e acted = record {
  formed = subst (IsWellFormedIf (checked_of g) (setting_of g)) e (IsWellFormedIf-action (checked_of g) (setting_of g) w action words holds.formed);
  count = ap (λ (areas : Areas). areas.pool.count) acted.areas ∙ holds.count;
  few = (let same = acted.threads in let few = holds.few in omega (arith, same, few));
}

pub held_after : (w after : World) (clock : ℕ) → Acted w after clock → held_chunks after ≡ held_chunks w
held_after w after clock acted = ap (λ (areas : Areas). areas.pool.count - free_count areas.pool) acted.areas

-- a delivery, by whether it is dropped
received_is : (b : Bool) (world : source.World) (delivery : Delivery) → cond b world (record world { exchange = with_delivery world.exchange delivery }) ≡ received b world delivery
received_is true world delivery = refl
received_is false world delivery = refl

-- the reading allows it too, and comes to the state beside the next one
pub record Came (g : Setup) (most : ℕ) (b : reading_state.State) (clock : ℕ) (item : Item) (drops : Bool) (after : State) : Type 0 where
  pub now : reading_state.State
  pub coming : reading.IsComing (given_of g most) b clock item drops now
  pub position : Position g after now

module _ (g : Setup) (most : ℕ) (before after : State) (clock : ℕ) (item : Item) (drops : Bool) (is : log.IsComing g before clock item drops after) where
  abbrev delivery : Delivery
  delivery = delivery_of is.event.kind

  came_between : (steps : ℕ) → Rests g before → Came g most (between_of before steps) clock item drops after
  came_between steps rests =
      let words = delivers_words is.event.kind is.delivery.point.next_is.line.spells.fits.kind in
      let both = two (setting_of g) (Advance clock) (Deliver delivery) before.machine is.machine is.delivers in
      let first = advances (setting_of g) before.machine both.between clock both.once in
      let then = delivers (setting_of g) both.between is.machine delivery both.twice in
      let holds = holds_after g both.between is.machine (Deliver delivery) both.between.clock words (holds_after g before.machine both.between (Advance clock) clock tt rests.holds both.once first) both.twice then in
      let advanced = advanced_law (checked_of g) g.program (setting_of g) before.machine both.between before.source clock rests.stands both.once in
      let delivered = delivered_law (checked_of g) g.program (setting_of g) both.between is.machine before.source delivery advanced both.twice in
      let world : cond (is_dropped g.policy.backlog before.source.exchange delivery) before.source (record before.source { exchange = with_delivery before.source.exchange delivery }) ≡ received drops before.source delivery =
      received_is (is_dropped g.policy.backlog before.source.exchange delivery) before.source delivery ∙ ap (λ (d : Bool). received d before.source delivery) (sym is.delivery.drops_is) in
      let stands = subst (StandsSettled (checked_of g) g.program is.machine) world delivered in
      let clock_is : clock ≡ is.machine.clock = sym (then.clock_is ∙ first.clock_is) in
      let cost_is : before.machine.cost ≡ is.machine.cost = sym (then.cost ∙ first.cost) in
      let held_is : held_chunks before.machine ≡ held_chunks is.machine = sym (held_after both.between is.machine both.between.clock then ∙ held_after before.machine both.between clock first) in
      let there : State = record before { machine = is.machine; source = received drops before.source delivery; trace = behind before.trace is.event } in
      let now = between_at clock before.machine.cost (held_chunks before.machine) there.source there.trace before.waiting before.past steps in
      let now_is : now ≡ between_of there steps =
      ap (λ (n : ℕ). between_at n before.machine.cost (held_chunks before.machine) there.source there.trace before.waiting before.past steps) clock_is
      ∙ ap (λ (n : ℕ). between_at is.machine.clock n (held_chunks before.machine) there.source there.trace before.waiting before.past steps) cost_is
      ∙ ap (λ (n : ℕ). between_at is.machine.clock is.machine.cost n there.source there.trace before.waiting before.past steps) held_is in
      record {
        now = now;
        coming = record {
          not_over = refl;
          event = is.event;
          delivery = delivery_read g.policy (reading_state.seen_of (between_of before steps)) clock is.event item drops
              (subst (λ (seen : Seen). IsDelivery g.policy seen clock is.event item drops) (same_seen g before steps rests) is.delivery);
          after_is = refl;
        };
        position = subst (λ (a : State). Position g a now) (sym is.after_is) (Between (record { none = rests.none; holds = holds; stands = stands }) now_is);
      }

  pub came : (b : reading_state.State) → Position g before b → Came g most b clock item drops after
  came b (Between rests b_is) = subst (λ (x : reading_state.State). Came g most x clock item drops after) (sym b_is) (came_between b.steps rests)
  came b (Within segment from cost held here under runs at b_is) = absurd (not_within before segment under is.delivery.point.between)
