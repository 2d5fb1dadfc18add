use Rattle.std.proofs.Common.{refl}
use Rattle.thread_waits.proofs.NeedBounds.{met_wait, range_at}
use Rattle.thread_waits.proofs.waits.Waits.bounds.Goals as goal

pub returns : goal.returns
returns c = λ place wait at.
    rw (← c.self.view_is)
    (met_wait _ c.args.exchange.now.caps c.args.exchange.now.exchange c.self.inside.clock
    (record { arrival = c.holds_arrival.ensures; channels = c.held_channels.ensures; clock_is = refl; unused = c.unused_of.ensures.is; within = c.unused_of.ensures.within })
    c.self.invariant.clock wait (range_at c.self.inside.places.items place wait c.self.invariant.in_range (rw (← c.self.view_is) at at)))
