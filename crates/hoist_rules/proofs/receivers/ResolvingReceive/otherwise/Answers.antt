use Rattle.hoist_rules.proofs.Common.{then_else, Resolved}
use Rattle.hoist_rules.proofs.receivers.ResolvingReceive.otherwise.Goals as goal

pub returns : goal.returns
unfolding then_else
returns c = λ i. Resolved (c.in_ok-otherwise.ensures i) c.args.self.now.places.items
