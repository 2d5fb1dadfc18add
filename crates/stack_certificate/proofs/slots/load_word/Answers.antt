use Rattle.std.proofs.Common.{arith}
use Rattle.stack_certificate.proofs.SlotLemmas.{checked_load, no_load}
use Rattle.stack_certificate.proofs.slots.load_word.Goals as goal

pub returns-in-None : goal.returns-in-None
returns-in-None c = no_load c.args.rd c.args.base _ c.in-None.ensures.over

pub returns-in-Some : goal.returns-in-Some
returns-in-Some c = checked_load c.args.rd c.args.base _ _ (omega arith) (omega arith) c.in-Some.ensures.fits.0 c.in-Some.ensures.fits.1
