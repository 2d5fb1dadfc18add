use Rattle.std.proofs.Common.{◌∙◌}
use Rattle.certificate_text.proofs.Written.{fields_more}
use Rattle.certificate_text.proofs.writing.put_fields.Goals as goal

pub loop-number-preserved : goal.loop-number-preserved
loop-number-preserved c = c.in_ok-put_field.ensures ∙ fields_more _ _ _ _ _ c.loop-number-test.true c.loop-number.invariant
