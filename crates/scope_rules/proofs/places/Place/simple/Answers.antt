use Rattle.scope_rules.proofs.Common.{ap, map, Calling, raw_expr_tree}
use Rattle.scope_rules.proofs.NeitherForms.{listed_arguments}
use Rattle.scope_rules.proofs.places.Place.simple.Goals as goal

pub returns-in_ok-call-in-Call-clause-tree : goal.returns-in_ok-call-in-Call-clause-tree
returns-in_ok-call-in-Call-clause-tree c = rw (c.in-Call.is, listed_arguments (map raw_expr_tree c.in-Call.arguments.items), ← c.deref-in-Call.ensures.value) (ap Calling c.in_ok-call-in-Call.ensures.tree)

pub returns-in_ok-call-in-Call-clause-faults : goal.returns-in_ok-call-in-Call-clause-faults
returns-in_ok-call-in-Call-clause-faults c = rw (c.in-Call.is, listed_arguments (map raw_expr_tree c.in-Call.arguments.items), ← c.deref-in-Call.ensures.value) c.in_ok-call-in-Call.ensures.faults
