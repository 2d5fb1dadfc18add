use Rattle.source_items.proofs.Common.{scalar_is}
use Rattle.source_items.proofs.rows.word_of.Goals as goal

pub returns : goal.returns
returns c = scalar_is c.args.rows.now.widths.now c.args.rows.now.words.now c.args.x _ c.requires.one_word (c.requires.rows.placed.each c.args.x c.requires.there)
