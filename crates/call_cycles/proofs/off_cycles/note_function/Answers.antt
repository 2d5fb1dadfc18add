use Rattle.call_cycles.proofs.Common.{◌<◌, length, ap, arith, program_code}
use Rattle.call_cycles.proofs.ClosedLemmas.{off-more}
use Rattle.call_cycles.proofs.off_cycles.note_function.Goals as goal

pub returns-clause-off : goal.returns-clause-off
returns-clause-off c =
    let within : c.args.function < length c.args.off.now.items = omega (arith, c.requires.each, ap length c.functions.ensures) in
    off-more (program_code c.args.flat.now) c.args.off.now.items c.args.function c.in_ok-found.found within c.in_ok-found.ensures.off c.requires.off
