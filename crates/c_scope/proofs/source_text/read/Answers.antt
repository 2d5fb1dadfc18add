use Rattle.c_parse.proofs.NestedWhole.{items_whole}
use Rattle.c_scope.proofs.source_text.read.Goals as goal

pub resolve-requires : goal.resolve-requires
resolve-requires c = items_whole _ c.in_ok-raw.ensures.tree.none_nested
