use Rattle.std.proofs.Common.{refl}
use Rattle.std.proofs.ByRecursion.{All-get_or}
use Rattle.analysis_lines.proofs.Written.{sites_more, name_there}
use Rattle.analysis_lines.proofs.text.put_sites.Goals as goal

pub loop-site-preserved : goal.loop-site-preserved
loop-site-preserved c =
    sites_more _ _ _ _ _ _ _ _ _ _ _ c.loop-site-test.true c.loop-site.invariant (name_there _ _ _ c.index-functions-site.result _ (All-get_or _ _ _ _ c.loop-site-test.true c.requires.callers) refl c.deref.ensures.value) c.kind_of.ensures c.in_ok-put_site.ensures
