-- The state of a queue, and its invariant.
use Rattle.std.specs.Prelude.{◌≡◌, Option, List, length}
use Rattle.ready_tree.specs.declared.entries.Entry.{Entry}
use Rattle.ready_tree.specs.declared.ready_tree.ReadyTree.TheInside.{Inside}
use Rattle.ready_tree.specs.Entries.{entries_of}
use Rattle.ready_tree.specs.Trees.{IsAboveIf}

abbrev pub places_of : Inside → List (Option Entry)
places_of queue = queue.places.items

pub record IsKept (queue : Inside) : Type 0 where
  pub live : queue.live ≡ length (entries_of queue.places.items)
  pub above : IsAboveIf queue.nodes.items queue.places.items
