use Rattle.std.proofs.Common.{refl}
use Rattle.c_mean.proofs.LayoutLemmas.{element_is, element_beyond}
use Rattle.c_mean.proofs.layout.element_of_name.Goals as goal

pub returns-then-index-sizes : goal.returns-then-index-sizes
returns-then-index-sizes c = element_is c.args.sizes.now c.args.words.now c.args.a c.args.index c.words_before.result _ c.requires.cut c.requires.there refl c.words_before.ensures c.if-index-sizes.true

pub returns-else-index-sizes : goal.returns-else-index-sizes
returns-else-index-sizes c = element_beyond c.args.sizes.now c.args.words.now c.args.a c.args.index _ _ c.requires.cut c.requires.there refl c.if-index-sizes.false
