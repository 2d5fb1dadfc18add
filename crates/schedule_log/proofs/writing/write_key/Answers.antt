use Rattle.std.proofs.lemmas.Grind.{common_steps}
use Rattle.schedule_log.proofs.Common.{arith, take_rest}
use Rattle.schedule_log.proofs.Pushed.{key_written}
use Rattle.schedule_log.proofs.Written.{writes_step}
use Rattle.schedule_log.proofs.writing.write_key.Goals as goal

pub returns : goal.returns
returns g c =
    writes_step _ _ _ _ _ _ c.write_word.ensures c.write_sites.ensures
    (key_written _ _ _ c.sites-sites.ensures.all c.sites-sites.ensures.some (grind (arith, common_steps, take_rest)))
