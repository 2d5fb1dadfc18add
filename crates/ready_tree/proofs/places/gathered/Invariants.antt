use Rattle.ready_tree.proofs.Common.{◌≡◌, length, take, entries_of, IsAboveIf, HasPlaces}
use Rattle.ready_tree.proofs.places.gathered.Given as goal

abbrev pub invariant-loop-place : goal.invariant-loop-place
invariant-loop-place l = record {
  same : entries_of l.kept.items ≡ entries_of (take l.place-index l.places);
  full : length l.kept.items ≡ length (entries_of (take l.place-index l.places));
  above : IsAboveIf l.nodes.items l.kept.items;
  room : HasPlaces l.nodes.items l.count;
}
