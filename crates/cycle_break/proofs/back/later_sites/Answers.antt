use Rattle.cycle_break.proofs.Common.{length, IsSiteOf, all-at}
use Rattle.cycle_break.proofs.back.later_sites.Goals as goal

pub greatest_of_target-latest-requires-clause-target : goal.greatest_of_target-latest-requires-clause-target
greatest_of_target-latest-requires-clause-target c =
    (all-at (IsSiteOf (length c.args.ranks.now) c.args.tables.now) c.args.sites.now c.loop-site.site-index _ c.requires.sites c.loop-site-test.true).target

pub bounds-ranks-site : goal.bounds-ranks-site
bounds-ranks-site c =
    (all-at (IsSiteOf (length c.args.ranks.now) c.args.tables.now) c.args.sites.now c.loop-site.site-index _ c.requires.sites c.loop-site-test.true).caller
