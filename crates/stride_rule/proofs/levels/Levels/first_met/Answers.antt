use Rattle.std.proofs.Common.{sym, ◌∙◌}
use Rattle.stride_rule.proofs.SummaryLemmas.{met_past}
use Rattle.stride_rule.proofs.levels.Levels.first_met.Goals as goal

pub loop-place-preserved-then-next-place : goal.loop-place-preserved-then-next-place
loop-place-preserved-then-next-place c =
    sym (met_past c.args.bounds.now c.loop-place.best c.args.places.now c.loop-place.place c.next_from-next.result c.next_from-next.ensures.at_least
    (λ k from to below. c.next_from-next.ensures.passed c.args.places.now c.requires k from to below))
    ∙ c.loop-place.invariant
