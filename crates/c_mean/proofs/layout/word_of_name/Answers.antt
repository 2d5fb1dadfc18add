use Rattle.c_mean.proofs.LayoutLemmas.{scalar_is}
use Rattle.c_mean.proofs.layout.word_of_name.Goals as goal

pub returns : goal.returns
returns c = scalar_is c.args.sizes.now c.args.words.now c.args.x c.words_before.result c.requires.one_word c.words_before.ensures
