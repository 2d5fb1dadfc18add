use Rattle.c_tree.specs.RawProgramView.{raw_program_tree}
use Rattle.c_hoist.proofs.Common.{for_parts_whole}
use Rattle.hoist_parts.proofs.Temporaries.{items_small}
use Rattle.hoist_parts.proofs.Whole.{items_hoisted_whole}
use Rattle.c_hoist.proofs.trees.hoist.Goals as goal

pub new-requires : goal.new-requires
new-requires c = rw (c.in_ok-items.ensures, c.items.ensures) (items_small (raw_program_tree c.args.raw.now) c.args.raw.now.within)

pub returns-clause-whole : goal.returns-clause-whole
returns-clause-whole c = λ h. rw (c.new.ensures, c.in_ok-items.ensures, c.items.ensures) (items_hoisted_whole (raw_program_tree c.args.raw.now) (for_parts_whole (raw_program_tree c.args.raw.now) h))
