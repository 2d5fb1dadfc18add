use Rattle.std.proofs.Common.{sym}
use Rattle.stack_certificate.proofs.FitsLemmas.{checked-in}
use Rattle.stack_certificate.proofs.parts.whole.Goals as goal

pub returns : goal.returns
returns c = sym (checked-in _ c.encode-word.ensures.ranges)
