use Rattle.schedule_reading.proofs.Common.{◌∙◌, w32, FitsSigned, rules, to_z-of_z, to_z-signed}
use Rattle.schedule_reading.proofs.outputs.signed_word.Goals as goal

pub returns : goal.returns
returns c =
    let fits : FitsSigned w32 c.cast_signed.result = search rules in
    to_z-of_z w32 c.cast_signed.result fits ∙ c.cast_signed.ensures ∙ to_z-signed c.args.word c.ranges.word.fits
