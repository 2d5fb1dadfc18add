use Rattle.std.proofs.Common.{[], ap, sym, ◌∙◌}
use Rattle.capriccio_commands.proofs.Counting.{last_in, last-of-log}
use Rattle.capriccio_commands.proofs.summaries.last_line.Goals as goal

pub loop-line-init : goal.loop-line-init
loop-line-init c = ap (last_in []) (c.into_iter-line-iterator.ensures.into_iter_gives ∙ c.new-line-items.ensures)

pub loop-line-preserved : goal.loop-line-preserved
loop-line-preserved c = sym (ap (last_in c.loop-line.last.now) c.in-Some.ensures.steps) ∙ c.loop-line.invariant

pub returns : goal.returns
returns c = λ entries is. sym (ap (last_in c.loop-line.last.now) c.in-None.ensures.steps.0) ∙ (c.loop-line.invariant ∙ last-of-log c.args.log.now entries is)
