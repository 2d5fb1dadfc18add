use Rattle.source_items.proofs.Common.{refl, element_is, element_beyond}
use Rattle.source_items.proofs.rows.element_of.Goals as goal

pub returns-then-index-rows : goal.returns-then-index-rows
returns-then-index-rows c =
    element_is c.args.rows.now.widths.now c.args.rows.now.words.now c.args.a c.args.index _ _ c.requires.rows.full c.requires.there refl (c.requires.rows.placed.each c.args.a c.requires.there) c.if-index-rows.true

pub returns-else-index-rows : goal.returns-else-index-rows
returns-else-index-rows c =
    element_beyond c.args.rows.now.widths.now c.args.rows.now.words.now c.args.a c.args.index _ _ c.requires.rows.full c.requires.there refl c.if-index-rows.false
