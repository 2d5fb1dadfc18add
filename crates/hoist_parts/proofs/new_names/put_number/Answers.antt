use Rattle.hoist_parts.proofs.Decimals.{widened}
use Rattle.hoist_parts.proofs.new_names.put_number.Goals as goal

pub returns : goal.returns
returns c =
    let text = widened c.from.result c.args.number c.ranges.number.fits c.from.ensures in
    rw text at c.put_dec.ensures.ok
