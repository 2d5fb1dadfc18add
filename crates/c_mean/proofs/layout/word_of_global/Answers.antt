use Rattle.c_mean.specs.Layout.{widths_of}
use Rattle.c_mean.proofs.LayoutLemmas.{scalar_is}
use Rattle.c_mean.proofs.layout.word_of_global.Goals as goal

pub returns : goal.returns
returns c = scalar_is (widths_of c.args.facts.now) c.args.words.now c.args.g c.words_before_global.result c.requires.one_word c.words_before_global.ensures
