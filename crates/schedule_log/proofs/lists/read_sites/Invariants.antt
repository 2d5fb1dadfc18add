use Rattle.schedule_log.proofs.Common.{◌≡◌, ◌-◌, ◌<◌, ◌≤◌, ◌^◌, ◌++◌, map, take, length, AllByRecursion, canonical_decimal}
use Rattle.schedule_log.proofs.lists.read_sites.Given as goal

abbrev pub invariant-loop-sites : goal.invariant-loop-sites
invariant-loop-sites l = record {
  read : l.fn.fields ≡ map canonical_decimal (take l.count l.sites) ++ l.fields;
  most : l.count ≤ 8;
  eight : length l.sites ≡ 8;
  fits : AllByRecursion (λ site. site < 2 ^ 32) (take l.count l.sites);
}

abbrev pub decreases-loop-sites : goal.decreases-loop-sites
decreases-loop-sites l = 8 - l.count
