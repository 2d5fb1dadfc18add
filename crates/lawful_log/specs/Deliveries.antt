-- The events in a log.
use Rattle.std.specs.Prelude.{◌≡◌, ℕ, Bool, [], ◌∷◌, Some}
use Rattle.choice_rules.specs.Deliveries.{delivery_of, received, IsDelivery}
use Rattle.choice_rules.specs.Trace.{behind}
use Rattle.event_trace.specs.declared.events.Event.{Event}
use Rattle.machine_world.specs.Runs.{Advance, Deliver, after_actions}
use Rattle.machine_world.specs.Threads.{World}
use Rattle.schedule_log.specs.declared.entries.Item.{Item}
use Rattle.lawful_log.specs.Setup.{Setup, setting_of}
use Rattle.lawful_log.specs.State.{State, seen_of}

-- `event` and `drop`: the next event is due, and joins its queue or is dropped
pub record IsComing (g : Setup) (before : State) (clock : ℕ) (item : Item) (drops : Bool) (after : State) : Type 0 where
  pub event : Event
  pub delivery : IsDelivery g.policy (seen_of before) clock event item drops
  pub machine : World
  pub delivers : after_actions (setting_of g) (Advance clock ∷ Deliver (delivery_of event.kind) ∷ []) before.machine ≡ Some machine
  pub after_is : after ≡ record before {
    machine = machine;
    source = received drops before.source (delivery_of event.kind);
    trace = behind before.trace event;
  }
