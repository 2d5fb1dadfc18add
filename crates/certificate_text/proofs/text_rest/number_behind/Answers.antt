use Rattle.certificate_text.proofs.FactFields.{number_missing}
use Rattle.certificate_text.proofs.text_rest.number_behind.Goals as goal

pub returns-in_err-number-clause-none : goal.returns-in_err-number-clause-none
returns-in_err-number-clause-none c =
    rw c.from_residual-in_err-number.ensures (number_missing _ _ _ c.args.most c.from.result c.read_dec.result c.from.ensures c.in_err-number.ensures.variant c.in_ok-field.ensures c.read_dec.ensures.reads)
