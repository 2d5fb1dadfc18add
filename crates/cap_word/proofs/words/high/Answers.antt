use Rattle.std.proofs.Common.{◌∙◌}
use Rattle.cap_word.proofs.WordLemmas.{high_is}
use Rattle.cap_word.proofs.words.high.Goals as goal

pub returns : goal.returns
returns c = c.word_of.ensures ∙ high_is c.args.product c.ranges.product
