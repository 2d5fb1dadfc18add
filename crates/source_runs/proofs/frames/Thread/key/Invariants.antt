use Rattle.std.proofs.Common.{◌≡◌, ◌≤◌, ◌+◌, ◌-◌, ◌∷◌, length, take}
use Rattle.source_runs.proofs.Keys.{sites_of}
use Rattle.source_runs.proofs.frames.Thread.key.Given as goal

abbrev pub invariant-loop-left : goal.invariant-loop-left
invariant-loop-left l = record {
  some : 1 ≤ l.count;
  most : l.count ≤ 8;
  all : l.left + l.count ≡ length l.self.below.items + 1;
  places : length l.sites ≡ 8;
  so_far : take l.count l.sites ≡ l.self.site ∷ take (l.count - 1) (sites_of l.self.below.items);
}

abbrev pub decreases-loop-left : goal.decreases-loop-left
decreases-loop-left l = l.left
