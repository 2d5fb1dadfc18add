use Rattle.schedule_log.proofs.Written.{writes_more, writes_end}
use Rattle.schedule_log.proofs.writing.write_trap.Goals as goal

pub returns : goal.returns
returns g c =
    writes_more _ _ _ _ _ c.write_name.ensures (writes_end _ _ _ (writes_more _ _ _ _ _ c.write_byte.ensures (rw c.trap_word.ensures at c.write.ensures)))
