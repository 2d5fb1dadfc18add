use Rattle.cap_word.proofs.WordLemmas.{sub_is}
use Rattle.cap_word.proofs.words.sub.Goals as goal

pub returns : goal.returns
returns c = sub_is c.args.a c.args.b c.ranges.a.fits c.ranges.b.fits
