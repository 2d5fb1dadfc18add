use Rattle.c_mean.specs.ModelledCalls.{cap_of}
use Rattle.thread_exchange.proofs.ResourceLaws.{given_below}
use Rattle.thread_exchange.proofs.exchange.Exchange.is_ready.Goals as goal

pub fits-requires : goal.fits-requires
fits-requires c = given_below c.args.self.now.caps c.in-Take.resource c.in-Take.amount (cap_of c.args.self.now.caps c.in-Take.resource) (rw (← c.self.view_is) c.self.invariant.cap_count) (rw c.in-Take.is at c.requires.untrapped)
