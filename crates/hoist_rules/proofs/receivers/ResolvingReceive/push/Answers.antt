use Rattle.hoist_rules.proofs.Common.{sym, ap, ◌∙◌, ◌++◌, append-nil, raw_stmt_tree, is_call, stmt_places, then_all, Resolved}
use Rattle.hoist_rules.proofs.receivers.ResolvingReceive.push.Goals as goal

pub returns : goal.returns
unfolding then_all
returns c =
    let places = c.in_ok-add_places_of_calls_in.ensures ∙ ap (λ ps. c.args.self.now.places.items ++ ps) (sym (append-nil (stmt_places is_call (raw_stmt_tree c.args.statement)))) in
    λ i. Resolved (c.in_ok-statement.ensures i) (places i)
