-- The contents of a tree of minima.
use Rattle.std.specs.Prelude.{ℕ, List}
use Rattle.thread_waits.specs.Minima.{AreMinima, leaves_in}
use Rattle.thread_waits.specs.declared.min_tree.MinTree.TheInside.{Inside}

abbrev pub leaves_of : Inside → List ℕ
leaves_of tree = leaves_in tree.nodes.items

abbrev pub IsTree : Inside → Type 0
IsTree tree = AreMinima tree.nodes.items
