use Rattle.cap_text.proofs.Common.{w32}
use Rattle.cap_text.proofs.FieldRefusals.{no_integer}
use Rattle.cap_text.proofs.fields.Fields.signed.Goals as goal

pub returns-clause-none : goal.returns-clause-none
returns-clause-none c = no_integer w32 _ _ _ c.read_signed.result c.ok.result c.ok.ensures.variant c.in_ok-field.ensures c.read_signed.ensures.reads
