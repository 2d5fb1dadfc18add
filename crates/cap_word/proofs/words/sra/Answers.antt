use Rattle.std.proofs.Common.{◌∙◌, w32, FitsSigned, rules}
use Rattle.cap_word.proofs.WordLemmas.{sra_is}
use Rattle.cap_word.proofs.words.sra.Goals as goal

pub returns : goal.returns
returns c =
    let fits_x : FitsSigned w32 c.signed.result = search rules in
    let fits_r : FitsSigned w32 c.wrapping_shr.result = search rules in
    c.word_of.ensures ∙ sra_is c.args.a c.args.b c.signed.result c.wrapping_shr.result fits_x fits_r c.signed.ensures c.wrapping_shr.ensures
