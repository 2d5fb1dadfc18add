-- The plain tree of a program.
use Rattle.c_tree.specs.Trees.{ProgramTree}
use Rattle.c_tree.specs.Programs.{tree_of}
use Rattle.c_tree.specs.declared.programs.Program.{Program}

abbrev pub program_tree : Program → ProgramTree
program_tree p = tree_of p.functions.items p.globals.items p.tables.items p.main
