use Rattle.stack_certificate.proofs.SlotLemmas.{checked_add, no_add}
use Rattle.stack_certificate.proofs.slots.raise_stack.Goals as goal

pub returns-in-None : goal.returns-in-None
returns-in-None c = no_add _ c.in-None.ensures.over

pub returns-in-Some : goal.returns-in-Some
returns-in-Some c = checked_add _ _ c.in-Some.ensures.fits.0 c.in-Some.ensures.fits.1
