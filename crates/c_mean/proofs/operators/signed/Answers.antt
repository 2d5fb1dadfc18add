use Rattle.std.proofs.Common.{◌∙◌, w32, FitsSigned, rules}
use Rattle.std.proofs.lemmas.Int.{to_z-of_z}
use Rattle.cap_word.proofs.WordLemmas.{to_z-signed}
use Rattle.c_mean.proofs.operators.signed.Goals as goal

pub returns : goal.returns
returns c =
    let fits : FitsSigned w32 c.cast_signed.result = search rules in
    to_z-of_z w32 c.cast_signed.result fits ∙ c.cast_signed.ensures ∙ to_z-signed c.args.a c.ranges.a.fits
