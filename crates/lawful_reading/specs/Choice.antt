-- The lines of choice points: events, and which thread runs.
use Rattle.std.specs.Prelude.{◌≡◌, ℕ, Bool, Some, length}
use Rattle.c_mean.specs.World as source
use Rattle.c_mean.specs.World.{begun}
use Rattle.choice_rules.specs.Choice.{IsChoice}
use Rattle.choice_rules.specs.Deliveries.{delivery_of, received, IsDelivery}
use Rattle.choice_rules.specs.Seen.{Waiter, uses_of, others_waiting, with_choice}
use Rattle.choice_rules.specs.Trace.{behind}
use Rattle.event_trace.specs.declared.events.Event.{Event}
use Rattle.schedule_log.specs.declared.entries.Item.{Item}
use Rattle.lawful_reading.specs.Given.{Given}
use Rattle.lawful_reading.specs.State.{State, NotYet, seen_of}

-- `event` and `drop`: the next event is due, and joins its queue or is dropped
pub record IsComing (g : Given) (before : State) (clock : ℕ) (item : Item) (drops : Bool) (after : State) : Type 0 where
  pub not_over : before.end ≡ NotYet
  pub event : Event
  pub delivery : IsDelivery g.policy (seen_of before) clock event item drops
  pub after_is : after ≡ record before {
    clock = clock;
    source = received drops before.source (delivery_of event.kind);
    trace = behind before.trace event;
  }

-- the state after a choice: the thread no longer waits, and the source's run of it begins
abbrev pub chosen_from : State → ℕ → Waiter → source.Segment → State
chosen_from before clock chosen here = record before {
  clock = clock;
  waiting = others_waiting before.waiting chosen;
  segment = Some (record { node = chosen.node; uses = uses_of (seen_of before); here = here });
  past = with_choice before.past chosen (length before.source.threads);
}

-- `run`: no event is due, and the thread is the lawful choice
pub record IsRun (g : Given) (before : State) (clock thread node : ℕ) (after : State) : Type 0 where
  pub not_over : before.end ≡ NotYet
  pub chosen : Waiter
  pub choice : IsChoice g.policy (seen_of before) clock chosen
  pub thread_is : thread ≡ chosen.thread
  pub node_is : node ≡ chosen.node
  pub here : source.Segment
  pub begins : begun g.program g.policy.caps before.source thread ≡ Some here
  pub after_is : after ≡ chosen_from before clock chosen here
