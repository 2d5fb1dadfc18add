use Rattle.rule_state.proofs.ChoiceLemmas.{nodes-without}
use Rattle.rule_state.proofs.strides.StridesAtNodes.leave.Goals as goal

pub invariant_of-self : goal.invariant_of-self
invariant_of-self c = rw c.leave.ensures (nodes-without c.args.thread.number c.self.inside.nodes.items c.self.inside.rule.clients c.self.invariant)
