use Rattle.schedule_log.proofs.Common.{pos, get_or, rules, FitsSigned, w128}
use Rattle.schedule_log.proofs.Pushed.{averages_step, writes_wide}
use Rattle.schedule_log.proofs.Written.{writes_step}
use Rattle.schedule_log.proofs.writing.write_averages.Goals as goal

pub loop-value-preserved : goal.loop-value-preserved
loop-value-preserved g c =
    let fits : FitsSigned w128 (get_or c.values-value-items.result.now c.loop-value.value-index (pos 0)) = search rules
    in writes_step _ _ _ _ _ _ c.loop-value.invariant (writes_wide _ _ _ fits c.write_integer.ensures)
    (averages_step _ c.loop-value.value-index (pos 0) c.loop-value-test.true)
