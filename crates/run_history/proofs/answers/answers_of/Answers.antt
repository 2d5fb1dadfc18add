use Rattle.std.proofs.Common.{sym}
use Rattle.run_history.proofs.Kept.{some-answers}
use Rattle.run_history.proofs.answers.answers_of.Goals as goal

pub returns : goal.returns
returns c = sym (some-answers c.args.first c.args.last c.args.count c.if-count-eq0.false)
