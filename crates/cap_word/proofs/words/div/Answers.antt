use Rattle.std.proofs.Common.{◌∙◌, w32, FitsSigned, rules}
use Rattle.cap_word.proofs.WordLemmas.{div_is, signed_nonzero}
use Rattle.cap_word.proofs.words.div.Goals as goal

pub wrapping_div-requires : goal.wrapping_div-requires
wrapping_div-requires c = signed_nonzero c.args.b c.signed-else-b-eq0.result c.ranges.b.fits c.if-b-eq0.false c.signed-else-b-eq0.ensures

pub returns-else-b-eq0 : goal.returns-else-b-eq0
returns-else-b-eq0 c =
    let fits_x : FitsSigned w32 c.signed.result = search rules in
    let fits_y : FitsSigned w32 c.signed-else-b-eq0.result = search rules in
    let fits_d : FitsSigned w32 c.wrapping_div.result = search rules in
    c.word_of.ensures ∙ div_is c.args.a c.args.b c.signed.result c.signed-else-b-eq0.result c.wrapping_div.result
    c.if-b-eq0.false fits_x fits_y fits_d c.signed.ensures c.signed-else-b-eq0.ensures c.wrapping_div.ensures
