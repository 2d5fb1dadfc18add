use Rattle.cap_text.proofs.FieldRefusals.{no_number}
use Rattle.cap_text.proofs.fields.Fields.number.Goals as goal

pub returns-clause-none : goal.returns-clause-none
returns-clause-none c = no_number _ _ _ _ c.read_dec.result c.ok.result c.ok.ensures.variant c.in_ok-field.ensures c.read_dec.ensures.reads
