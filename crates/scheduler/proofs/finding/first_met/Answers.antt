use Rattle.std.proofs.Common.{◌∙◌}
use Rattle.scheduler.proofs.FindLemmas.{exact_first}
use Rattle.scheduler.proofs.finding.first_met.Goals as goal

pub returns : goal.returns
returns c = λ test exact. c.found_at.ensures test (c.first.ensures ∙ exact_first c.args.bounds.now test c.args.queue.now exact)
