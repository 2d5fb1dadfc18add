use Rattle.cycle_break.proofs.Common.{◌≡◌, map, filter, take, nat_le, slice_index, callees, greatest}
use Rattle.cycle_break.proofs.back.later_sites.Given as goal

abbrev pub invariant-loop-site : goal.invariant-loop-site
invariant-loop-site l =
    l.back.items ≡ map (λ site. site.number) (filter (λ site. nat_le (slice_index l.ranks site.caller) (greatest (slice_index l.ranks) (callees l.tables site.target))) (take l.site-index l.sites))
