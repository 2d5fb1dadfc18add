use Rattle.cycle_break.proofs.Common.{length, reverse, [], come, IsSeen, walk}
use Rattle.cycle_break.proofs.PathLemmas.{IsOnWay, work}
use Rattle.cycle_break.proofs.walking.walk_from.Given as goal

abbrev pub invariant-loop-frame : goal.invariant-loop-frame
invariant-loop-frame l = record {
  way : IsOnWay l.tables l.index.sites.now l.index.without.now (length l.fn.visited)
      (walk l.tables l.index.sites.now l.index.without.now (length l.fn.visited) [] l.root (come (reverse l.fn.left.items))).left
      l.path l.visited (reverse l.left.items);
  seen : IsSeen l.tables l.visited l.seen;
}

abbrev pub decreases-loop-frame : goal.decreases-loop-frame
decreases-loop-frame l = work (length l.index.sites.now) l.visited l.path
