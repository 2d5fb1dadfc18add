use Rattle.cap_word.proofs.WordLemmas.{signed_nonzero}
use Rattle.cap_word.proofs.words.rem.Goals as goal

pub wrapping_rem-requires : goal.wrapping_rem-requires
wrapping_rem-requires c = signed_nonzero c.args.b c.signed-else-b-eq0.result c.ranges.b.fits c.if-b-eq0.false c.signed-else-b-eq0.ensures
