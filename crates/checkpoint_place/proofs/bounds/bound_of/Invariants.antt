use Rattle.checkpoint_place.proofs.Common.{◌≡◌, ℕ, List, ◌≤◌, ◌<◌, ◌+◌, ◌-◌, true, max, length, drop, get_or, filter, slice_index, GraphSite, greatest, is_call_of, sites_of, AreKnownAmong, CallAmong, IsKnown, callee_bound, is_within}
use Rattle.checkpoint_place.proofs.bounds.bound_of.Given as goal

abbrev pub invariant-loop-place : goal.invariant-loop-place
invariant-loop-place l = record {
  room : l.weight + l.most ≤ l.max_path;
  within : l.place ≤ length l.index.sites.now;
  mine : (d : GraphSite) → l.place < length l.index.sites.now → is_call_of l.index.without.now l.function (get_or l.index.sites.now l.place d) ≡ true;
  most : max l.most (greatest (callee_bound l.tables (slice_index l.bounds))
      (filter (is_within l.tables (slice_index l.bounds) l.max_path l.weight) (sites_of (drop l.place l.index.sites.now) l.index.without.now l.function)))
      ≡ greatest (callee_bound l.tables (slice_index l.bounds))
      (filter (is_within l.tables (slice_index l.bounds) l.max_path l.weight) (sites_of l.index.sites.now l.index.without.now l.function));
  known : IsKnown l.tables (slice_index l.bounds) l.known;
  among : (others : List ℕ) → AreKnownAmong l.tables others l.fn.known → CallAmong l.tables others (sites_of l.index.sites.now l.index.without.now l.function) → AreKnownAmong l.tables others l.known;
}

abbrev pub decreases-loop-place : goal.decreases-loop-place
decreases-loop-place l = length l.index.sites.now - l.place
