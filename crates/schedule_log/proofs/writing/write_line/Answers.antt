use Rattle.schedule_log.proofs.Written.{writes_more}
use Rattle.schedule_log.proofs.writing.write_line.Goals as goal

pub returns : goal.returns
returns g c =
    writes_more _ _ _ _ _ c.write_entry.ensures c.write_byte.ensures
