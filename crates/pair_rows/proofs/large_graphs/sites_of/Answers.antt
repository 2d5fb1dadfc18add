use Rattle.std.proofs.Common.{◌≡◌, ◌+◌, [], ◌∷◌, ◌++◌, arith}
use Rattle.std.proofs.ByRecursion.{All-push}
use Rattle.call_graph.specs.Graph.{IsSiteOf}
use Rattle.pair_rows.proofs.RisingSites.{NumbersBelow, below-more, rising-added}
use Rattle.pair_rows.proofs.large_graphs.sites_of.Goals as goal

pub loop-number-preserved : goal.loop-number-preserved
loop-number-preserved c =
    let sites = c.loop-number.sites.items in
    let site = c.site_of.result in
    let was = c.loop-number.invariant in
    let pushed : c.push.new.self.items ≡ sites ++ site ∷ [] = c.in_ok-push.ensures.items in
    let below : NumbersBelow site.number sites = rw c.site_of.ensures.number was.below in
    rw pushed (record {
      sound = λ members some all. All-push (IsSiteOf (c.args.last + 1) (members ∷ [])) sites site (was.sound members some all) (c.site_of.ensures.sound members some all);
      rising = rising-added sites site below was.rising;
      below = All-push _ sites site (below-more c.loop-number.number sites was.below) (rw c.site_of.ensures.number (omega arith));
    })
