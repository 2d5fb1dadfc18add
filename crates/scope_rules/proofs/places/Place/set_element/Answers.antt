use Rattle.scope_rules.proofs.Common.{◌++◌, name_tree, raw_expr_tree, array_faults, expr_faults, right_faults}
use Rattle.scope_rules.proofs.Least.{least_of_then}
use Rattle.scope_rules.proofs.places.Place.set_element.Goals as goal

pub returns-clause-faults : goal.returns-clause-faults
returns-clause-faults c =
    let names = c.args.self.now.names in
    let fa = array_faults names (name_tree c.args.name.now) in
    let fi = expr_faults names (raw_expr_tree c.args.index.now) in
    let fv = right_faults names (raw_expr_tree c.args.value.now) in
    least_of_then c.args.self.now.least c.array-array.new.least c.then_right.new.self.least fa (fi ++ fv) c.array-array.ensures.faults
    (least_of_then c.array-array.new.least c.expr.new.least c.then_right.new.self.least fi fv c.in_ok-index.ensures.faults c.in_ok-index-3.ensures.faults)
