use Rattle.scope_rules.proofs.Common.{ap, ◌∙◌, name_tree, raw_expr_tree, least_of, spot_of, declare_faults, right_faults}
use Rattle.scope_rules.proofs.OrderOfFaults.{least_of_earlier}
use Rattle.scope_rules.proofs.places.Place.declare_with.Goals as goal

pub returns-clause-faults : goal.returns-clause-faults
returns-clause-faults c =
    let s = spot_of c.args.self.now in
    let n = name_tree c.args.name.now in
    least_of_earlier c.args.self.now.least c.right.new.self.least c.then_declare.new.self.least (declare_faults s n) (right_faults s.names (raw_expr_tree c.args.initial.now))
    c.in_ok-value.ensures.faults (c.in_ok-value-2.ensures.faults ∙ ap (λ x. least_of c.right.new.self.least (declare_faults x n)) c.in_ok-value.ensures.place)
