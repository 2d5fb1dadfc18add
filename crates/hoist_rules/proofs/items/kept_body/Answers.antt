use Rattle.hoist_rules.proofs.Common.{◌∙◌, ap, kept_statements, all_hoisted, raw_stmt_trees}
use Rattle.hoist_rules.specs.Receivers.{Received, then_received}
use Rattle.hoist_rules.proofs.items.kept_body.Goals as goal

pub returns : goal.returns
returns c =
    c.into_statements.ensures
    ∙ (ap kept_statements c.in_ok-hoisted.ensures ∙ ap (λ (r : Received). kept_statements (then_received r (all_hoisted 0 (raw_stmt_trees c.args.body.now)))) c.new.ensures)
