use Rattle.schedule_log.proofs.Pushed.{writes_wide}
use Rattle.schedule_log.proofs.Written.{writes_more}
use Rattle.schedule_log.proofs.writing.write_edge.Goals as goal

pub returns : goal.returns
returns g c =
    writes_more _ _ _ _ _ c.write.ensures (writes_more _ _ _ _ _ c.write_word.ensures (writes_more _ _ _ _ _ c.write_word-2.ensures (writes_more _ _ _ _ _ c.write_number.ensures
    (writes_more _ _ _ _ _ (writes_wide _ _ _ c.ranges.cost c.write_integer.ensures) c.write_averages.ensures))))
