use Rattle.schedule_log.proofs.Pushed.{more_sites_step}
use Rattle.schedule_log.proofs.Written.{writes_step}
use Rattle.schedule_log.proofs.writing.write_sites.Goals as goal

pub loop-site-preserved : goal.loop-site-preserved
loop-site-preserved g c =
    writes_step _ _ _ _ _ _ c.loop-site.invariant c.write_site.ensures (more_sites_step _ c.loop-site.site-index c.loop-site-test.true)
