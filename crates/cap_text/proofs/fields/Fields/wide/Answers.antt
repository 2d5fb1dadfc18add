use Rattle.cap_text.proofs.Common.{w128}
use Rattle.cap_text.proofs.FieldRefusals.{no_integer}
use Rattle.cap_text.proofs.fields.Fields.wide.Goals as goal

pub returns-clause-none : goal.returns-clause-none
returns-clause-none c = no_integer w128 _ _ _ c.read_wide.result c.ok.result c.ok.ensures.variant c.in_ok-field.ensures c.read_wide.ensures.reads
