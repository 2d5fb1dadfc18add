use Rattle.std.proofs.Common.{ℤ, pos, ◌*ℤ◌, ap, ◌∙◌}
use Rattle.scheduler.proofs.ScoreLemmas.{computed_strain, strain-le}
use Rattle.scheduler.proofs.scores.expected_strain.Goals as goal

pub returns-clause-value : goal.returns-clause-value
returns-clause-value c =
    rw c.from.ensures (computed_strain c.args.pressure c.predicted.result c.requires.most c.predicted.ensures.small)
    ∙ ap (λ (z : ℤ). pos c.args.pressure *ℤ z) c.predicted.ensures.value

pub returns-clause-small : goal.returns-clause-small
returns-clause-small c =
    rw (c.from.ensures, computed_strain c.args.pressure c.predicted.result c.requires.most c.predicted.ensures.small)
    (strain-le c.args.pressure c.predicted.result c.requires.most c.predicted.ensures.small)
