use Rattle.scope_rules.proofs.Common.{◌≡◌, ◌++◌, ◌∙◌, ap, name_tree, raw_expr_tree, find, least_of, expr_faults, table_name_faults}
use Rattle.scope_rules.proofs.Least.{least_of_then}
use Rattle.scope_rules.proofs.places.Place.table_call.Goals as goal

pub returns-clause-faults : goal.returns-clause-faults
returns-clause-faults c =
    let old = c.args.self.now.least in
    let o1 = c.check_table_name.new.least in
    let names = c.args.self.now.names in
    let n = name_tree c.args.name.now in
    let ft = table_name_faults (find n.text names) n.at in
    let fi = expr_faults names (raw_expr_tree c.args.index.now) in
    let fa = expr_faults names (raw_expr_tree c.args.argument.now) in
    let is : c.find-found.result ≡ find n.text names = c.find-found.ensures ∙ ap (λ t. find t names) c.deref.ensures.value in
    let e1 : o1 ≡ least_of old ft = c.check_table_name.ensures ∙ ap (λ x. least_of old (table_name_faults x n.at)) is in
    least_of_then old o1 c.then_boxed.new.least ft (fi ++ fa) e1
    (least_of_then o1 c.expr.new.least c.then_boxed.new.least fi fa c.in_ok-index.ensures.faults c.in_ok-index-3.ensures.faults)
