-- The plain tree of a program's fields.
use Rattle.std.specs.Prelude.{ℕ, List, map}
use Rattle.c_tree.specs.Trees.{ProgramTree}
use Rattle.c_tree.specs.Views.{function_tree, table_row}
use Rattle.c_tree.specs.declared.facts.Function.{Function}
use Rattle.c_tree.specs.declared.facts.GlobalFact.{GlobalFact}
use Rattle.c_tree.specs.declared.facts.TableFact.{TableFact}

abbrev pub tree_of : List Function → List GlobalFact → List TableFact → ℕ → ProgramTree
tree_of fs gs ts main = record { functions = map function_tree fs; globals = gs; tables = map table_row ts; main = main }
