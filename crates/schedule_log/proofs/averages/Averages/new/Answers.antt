use Rattle.std.proofs.Common.{length, ap}
use Rattle.schedule_log.proofs.Filled.{filled}
use Rattle.schedule_log.proofs.averages.Averages.new.Goals as goal

pub invariant_of-result : goal.invariant_of-result
invariant_of-result c =
    let front = filled c.copy_from_slice.new.self (length c.args.values.now) (ap length c.copy_from_slice.ensures.after) c.requires.fits in
    (c.requires.some, c.requires.fits, front.0, front.1)
