use Rattle.ready_tree.proofs.Common.{◌≡◌, ◌-◌, ◌<◌, ◌≤◌, ◌*◌, ◌/◌, length, take, IsAboveIf, HasRoom, AreJoinedIf}
use Rattle.ready_tree.proofs.places.rebuild.Given as goal

abbrev pub invariant-loop-end : goal.invariant-loop-end
invariant-loop-end l = record {
  end : l.end ≤ length l.places;
  block : l.end < length l.places → l.end ≡ 16 * (l.end / 16);
  room : HasRoom l.nodes l.places;
  joined : AreJoinedIf l.nodes;
  above : IsAboveIf l.nodes (take l.end l.places);
}

abbrev pub decreases-loop-end : goal.decreases-loop-end
decreases-loop-end l = length l.places - l.end
