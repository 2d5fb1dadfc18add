use Rattle.std.proofs.Common.{arith}
use Rattle.stack_certificate.proofs.SlotLemmas.{checked_store, no_store}
use Rattle.stack_certificate.proofs.slots.store_word.Goals as goal

pub returns-in-None : goal.returns-in-None
returns-in-None c = no_store c.args.base c.args.source _ c.in-None.ensures.over

pub returns-in-Some : goal.returns-in-Some
returns-in-Some c = checked_store c.args.base c.args.source _ _ (omega arith) (omega arith) c.in-Some.ensures.fits.0 c.in-Some.ensures.fits.1
