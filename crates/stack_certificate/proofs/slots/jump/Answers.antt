use Rattle.std.proofs.Common.{arith}
use Rattle.stack_certificate.proofs.SlotLemmas.{checked_jump, no_jump}
use Rattle.stack_certificate.proofs.slots.jump.Goals as goal

pub returns-in-None : goal.returns-in-None
returns-in-None c = no_jump c.args.rd _ c.in-None.ensures.over

pub returns-in-Some : goal.returns-in-Some
returns-in-Some c = checked_jump c.args.rd _ _ (omega arith) c.in-Some.ensures.fits.0 c.in-Some.ensures.fits.1
