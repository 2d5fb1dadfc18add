use Rattle.hoist_rules.proofs.Common.{then_open, Resolved}
use Rattle.hoist_rules.proofs.receivers.ResolvingReceive.open.Goals as goal

pub returns : goal.returns
unfolding then_open
returns c = λ i. Resolved (c.in_ok-open.ensures i) (c.in_ok-add_places.ensures i)
