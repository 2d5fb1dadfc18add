use Rattle.stride_rule.proofs.SummaryLemmas.{includes_self}
use Rattle.stride_rule.proofs.summaries.Summary.with.Goals as goal

pub returns-in-Some-clause-covers : goal.returns-in-Some-clause-covers
returns-in-Some-clause-covers c = rw c.in-Some.is (record { met = λ bounds e. c.join.ensures.right.met bounds (c.of.ensures bounds e); least = c.join.ensures.right.least })

pub returns-in-None-clause-keeps : goal.returns-in-None-clause-keeps
returns-in-None-clause-keeps c = includes_self c.args.self.now
