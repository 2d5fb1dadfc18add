use Rattle.source_runs.proofs.Common.{◌+◌, arith, ◌∙◌, length-set, width_is, rows_of}
use Rattle.source_runs.proofs.Words.{cleared-more, filled-all, rows_length}
use Rattle.source_runs.proofs.storing.clear_row.Goals as goal

pub loop-i-preserved : goal.loop-i-preserved
loop-i-preserved c = record {
  count = length-set c.loop-i.words (c.args.start + c.loop-i.i) 0 ∙ c.loop-i.invariant.count;
  rows = λ ns x there place wide full.
      let same = width_is ns c.args.words.now x full there in
      cleared-more ns c.loop-i.words (rows_of ns c.args.words.now) x c.loop-i.i (c.args.start + c.loop-i.i) (rows_length ns c.args.words.now)
      (c.loop-i.invariant.rows ns x there place wide full) (omega arith) (omega arith) there same;
}

pub returns-clause-rows : goal.returns-clause-rows
returns-clause-rows c = λ ns x there place wide full.
    let same = width_is ns c.args.words.now x full there in
    c.loop-i.invariant.rows ns x there place wide full ∙ filled-all (rows_of ns c.args.words.now) x c.loop-i.i (omega (arith, same))
