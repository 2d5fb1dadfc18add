use Rattle.stride_rule.proofs.Common.{◌≡◌, ◌≤◌, drop, most_among, least_among}
use Rattle.stride_rule.proofs.spreads.apart_from.Given as goal

abbrev pub invariant-loop-place : goal.invariant-loop-place
invariant-loop-place l = record {
  most : most_among l.most (drop l.place-index l.places) ≡ most_among l.pass l.places;
  least : least_among l.least (drop l.place-index l.places) ≡ least_among l.pass l.places;
  order : l.least ≤ l.most;
}
