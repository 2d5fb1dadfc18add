use Rattle.pair_commands.proofs.Common.{inl, inr, ap, accepted_tree, stop-follows, printed, BudgetsPair, IsCycleRefused}
use Rattle.pair_commands.proofs.budget_command.budget_accepted.Goals as goal

pub returns-in-Ok-text_of : goal.returns-in-Ok-text_of
returns-in-Ok-text_of c =
    inr (c.is_valid.ensures, inr (record { budget = c.in-Ok.budget; least = c.in-Ok.ensures.least; acyclic = c.in-Ok.ensures.acyclic; is = ap (printed 0) c.in-Ok-text_of.ensures }))

pub returns-in-Err-Cycle : goal.returns-in-Err-Cycle
returns-in-Err-Cycle c =
    let accepted = c.args.accepted.now in
    stop-follows (IsCycleRefused (accepted_tree accepted)) (BudgetsPair (accepted_tree accepted) accepted.image accepted.certificate) c.cycle_stop.result
    (λ o h. inr (c.is_valid.ensures, inl h)) (rw c.program.ensures at c.cycle_stop.ensures)
