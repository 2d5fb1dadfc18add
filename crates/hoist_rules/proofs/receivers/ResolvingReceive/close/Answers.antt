use Rattle.hoist_rules.proofs.Common.{then_close, Resolved}
use Rattle.hoist_rules.proofs.receivers.ResolvingReceive.close.Goals as goal

pub returns : goal.returns
unfolding then_close
returns c = λ i. Resolved (c.in_ok-close.ensures i) c.args.self.now.places.items
