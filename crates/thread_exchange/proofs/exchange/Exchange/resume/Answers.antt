use Rattle.std.proofs.Common.{drop, ap}
use Rattle.thread_exchange.proofs.ResourceLaws.{channel_below}
use Rattle.thread_exchange.proofs.QueueLaws.{items_of-set}
use Rattle.thread_exchange.proofs.exchange.Exchange.resume.Goals as goal

pub returns-in-Wait-clause-after : goal.returns-in-Wait-clause-after
returns-in-Wait-clause-after c =
    rw (c.in-Wait.is, ← c.self.view_is)
    (ap (λ channels. record { caps = c.self.inside.caps; backlog = c.self.inside.backlog; exchange = record { arrivals = c.self.inside.arrivals.items; channels = channels; uses = c.self.inside.uses } })
    (items_of-set c.self.inside.channels.items c.in-Wait.channel c.index_mut-queue.result.now c.pop_front-in-Wait.new.self (rw c.self.invariant.count (channel_below c.in-Wait.channel (rw c.in-Wait.is at c.requires.untrapped))) c.index_mut-queue.ensures.value (drop 1) (ap (λ b. b.items) c.pop_front-in-Wait.ensures.items)))
