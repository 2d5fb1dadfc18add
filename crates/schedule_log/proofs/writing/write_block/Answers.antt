use Rattle.schedule_log.proofs.Written.{writes_more}
use Rattle.schedule_log.proofs.writing.write_block.Goals as goal

pub returns : goal.returns
returns g c =
    writes_more _ _ _ _ _ c.write.ensures (writes_more _ _ _ _ _ c.write_word.ensures (writes_more _ _ _ _ _ c.write_word-2.ensures (writes_more _ _ _ _ _ c.write_key.ensures (c.write_segment.ensures))))
