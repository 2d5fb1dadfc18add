-- The plain trees of a source as it is read.
use Rattle.std.specs.Prelude.{List}
use Rattle.c_tree.specs.RawTrees.{RawItemTree}
use Rattle.c_tree.specs.RawViews.{raw_item_trees}
use Rattle.c_tree.specs.declared.raw_programs.RawProgram.{RawProgram}

abbrev pub raw_program_tree : RawProgram → List RawItemTree
raw_program_tree p = raw_item_trees p.items.items
