use Rattle.std.proofs.lemmas.List.Concat.{flat_map-append}
use Rattle.schedule_log.proofs.Written.{writes_more}
use Rattle.schedule_log.proofs.writing.write_cut.Goals as goal

pub returns : goal.returns
returns g c =
    rw flat_map-append (writes_more _ _ _ _ _ c.write_cause.ensures c.write_segment.ensures)
