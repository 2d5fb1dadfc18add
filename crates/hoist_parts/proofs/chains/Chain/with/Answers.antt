use Rattle.hoist_parts.proofs.Common.{raw_expr_tree}
use Rattle.hoist_parts.proofs.ChainLemmas.{chained_more}
use Rattle.hoist_parts.proofs.chains.Chain.with.Goals as goal

pub returns : goal.returns
returns c = rw c.in_ok-push.ensures.items (chained_more (raw_expr_tree c.args.self.first) c.args.self.rest.items c.args.operator c.args.operand)
