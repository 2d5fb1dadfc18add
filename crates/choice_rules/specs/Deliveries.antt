-- Deliveries from outside.
use Rattle.std.specs.Prelude.{◌≡◌, ℕ, Bool, true, false, Some}
use Rattle.cap_word.specs.Word.{signed}
use Rattle.c_mean.specs.ModelledCalls.{Delivery, Arrival, Message, is_dropped, with_delivery}
use Rattle.c_mean.specs.World as source
use Rattle.event_trace.specs.declared.events.Event.{Event}
use Rattle.event_trace.specs.declared.events.EventKind.{EventKind}
use Rattle.event_trace.specs.declared.events.EventKind.TheVariants as events
use Rattle.schedule_log.specs.declared.entries.Entry.{Entry}
use Rattle.schedule_log.specs.declared.entries.Item.{Item}
use Rattle.choice_rules.specs.Policy.{Policy}
use Rattle.choice_rules.specs.Seen.{Seen}
use Rattle.choice_rules.specs.Clock.{is_due, IsChoicePoint}

-- the delivery of an event, and its item in the log, with signed numbers
abbrev pub delivery_of : EventKind → Delivery
delivery_of (events.Arrive value) = Arrival value
delivery_of (events.Message channel value) = Message channel value

abbrev pub item_of : EventKind → Item
item_of (events.Arrive value) = Item.Arrive (signed value)
item_of (events.Message channel value) = Item.Data channel (signed value)

-- the source world after a delivery that isn't dropped
abbrev pub queued : source.World → Delivery → source.World
queued world delivery = record world { exchange = with_delivery world.exchange delivery }

-- the source world after a delivery, by whether it is dropped
abbrev pub received : Bool → source.World → Delivery → source.World
received true world delivery = world
received false world delivery = queued world delivery

-- The next event is due and is delivered: it is dropped exactly if its queue has the maximum number of items, and
-- otherwise joins that queue.
pub record IsDelivery (policy : Policy) (seen : Seen) (clock : ℕ) (event : Event) (item : Item) (drops : Bool) : Type 0 where
  pub point : IsChoicePoint policy seen (Some event) clock
  pub due : is_due (Some event) clock ≡ true
  pub item_is : item ≡ item_of event.kind
  pub drops_is : drops ≡ is_dropped policy.backlog seen.source.exchange (delivery_of event.kind)

-- the entry of what comes, by whether it is dropped
abbrev pub coming_entry : Bool → ℕ → Item → Entry
coming_entry true clock item = Entry.Dropped clock item
coming_entry false clock item = Entry.Event clock item
