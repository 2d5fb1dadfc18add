use Rattle.pair_commands.proofs.Common.{program_tree}
use Rattle.pair_commands.proofs.Budgeted.{budget-of, unbudgeted}
use Rattle.pair_commands.proofs.budget_command.budget_pair.Goals as goal

pub returns-in-Ok : goal.returns-in-Ok
returns-in-Ok c =
    let accepts = c.in-Ok.ensures.accepted in
    budget-of c.in-Ok.accepted (program_tree c.args.program) c.args.image c.args.certificate c.budget_accepted-text.result accepts.program_is accepts.image_is accepts.certificate_is c.budget_accepted-text.ensures

pub returns-in-Err : goal.returns-in-Err
returns-in-Err c = unbudgeted c.args.program c.args.image c.args.certificate c.in-Err.error c.check_stop.result c.in-Err.ensures.refused c.check_stop.ensures
