use Rattle.pair_commands.proofs.Common.{program_tree}
use Rattle.pair_commands.proofs.Leading.{pair-of, unaccepted}
use Rattle.pair_commands.proofs.run_command.accept_pair.Goals as goal

pub returns-in-Ok : goal.returns-in-Ok
returns-in-Ok c = λ trace.
    let accepts = c.in-Ok.ensures.accepted in
    pair-of trace c.args.policy c.in-Ok.accepted (program_tree c.args.program) c.args.image c.args.certificate c.within_pool.result accepts.program_is accepts.image_is accepts.certificate_is (c.within_pool.ensures trace)

pub returns-in-Err : goal.returns-in-Err
returns-in-Err c = λ trace.
    unaccepted trace c.args.policy c.args.program c.args.image c.args.certificate c.in-Err.error c.check_stop.result c.in-Err.ensures.refused c.check_stop.ensures
