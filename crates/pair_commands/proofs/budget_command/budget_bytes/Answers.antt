use Rattle.pair_commands.proofs.Common.{ℕ, Vec, err_from_is_err_and, printed, BudgetsPair}
use Rattle.pair_commands.proofs.Reading.{after-pair, unread-stops}
use Rattle.pair_commands.proofs.budget_command.budget_bytes.Goals as goal

pub returns-in_err-program : goal.returns-in_err-program
returns-in_err-program c =
    let p = err_from_is_err_and c.from_residual.result c.from_residual.ensures.1 in
    rw (p.1, p.2) (unread-stops c.args.source.now c.args.image.now c.args.certificate.now BudgetsPair c.in_err-program.field-0.0 c.in_err-program.ensures)

pub returns : goal.returns
returns c =
    after-pair c.args.source.now c.args.image.now c.args.certificate.now BudgetsPair c.in_ok-program.field-0 c.in_ok-program.ensures (λ (text : Vec ℕ). printed 0 text.items) c.budget_pair.result c.budget_pair.ensures
