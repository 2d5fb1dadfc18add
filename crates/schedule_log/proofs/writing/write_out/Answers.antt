use Rattle.schedule_log.proofs.Pushed.{writes_word}
use Rattle.schedule_log.proofs.Written.{writes_more, writes_end}
use Rattle.schedule_log.proofs.writing.write_out.Goals as goal

pub returns : goal.returns
returns g c =
    writes_more _ _ _ _ _ c.write.ensures (writes_more _ _ _ _ _ c.write_word.ensures (writes_end _ _ _ (writes_word _ _ _ c.ranges.value c.write_signed.ensures)))
