use Rattle.pair_commands.proofs.Common.{err_from_is_err_and, ChecksPair, verdict_outcome}
use Rattle.pair_commands.proofs.Reading.{after-pair, unread-stops}
use Rattle.pair_commands.proofs.check_command.check_bytes.Goals as goal

pub returns-in_err-program : goal.returns-in_err-program
returns-in_err-program c =
    let p = err_from_is_err_and c.from_residual.result c.from_residual.ensures.1 in
    rw (p.1, p.2) (unread-stops c.args.source.now c.args.image.now c.args.certificate.now ChecksPair c.in_err-program.field-0.0 c.in_err-program.ensures)

pub returns : goal.returns
returns c =
    after-pair c.args.source.now c.args.image.now c.args.certificate.now ChecksPair c.in_ok-program.field-0 c.in_ok-program.ensures verdict_outcome c.check_pair.result c.check_pair.ensures
