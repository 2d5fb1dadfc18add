use Rattle.analysis_lines.proofs.Written.{widened}
use Rattle.command_outcomes.proofs.cause_lines.put_number.Goals as goal

pub returns : goal.returns
returns c =
    let text = widened c.from.result c.args.number c.ranges.number.fits c.from.ensures in
    rw text at c.put_dec.ensures.ok
