use Rattle.schedule_log.proofs.Written.{writes_more, writes_end}
use Rattle.schedule_log.proofs.writing.write_run.Goals as goal

pub returns : goal.returns
returns g c =
    writes_more _ _ _ _ _ c.write.ensures (writes_more _ _ _ _ _ c.write_number.ensures (writes_more _ _ _ _ _ c.write_word.ensures (writes_end _ _ _ c.write_word-2.ensures)))
