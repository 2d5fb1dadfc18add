use Rattle.c_tree.proofs.WholeInFors.{parts_whole}
use Rattle.c_tree.proofs.for_parts.whole_in_fors.Goals as goal

pub returns : goal.returns
returns c = parts_whole
