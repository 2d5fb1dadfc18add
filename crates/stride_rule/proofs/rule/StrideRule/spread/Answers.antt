use Rattle.stride_rule.proofs.Common.{clients_of}
use Rattle.stride_rule.proofs.SpreadLemmas.{apart-le}
use Rattle.stride_rule.proofs.rule.StrideRule.spread.Goals as goal

pub returns-else-self-clause-within : goal.returns-else-self-clause-within
returns-else-self-clause-within c =
    rw (← c.self.view_is, c.apart.ensures, c.as_slice.ensures.value)
    (apart-le c.self.inside.latest c.self.inside.greatest (clients_of c.self.inside.places.items) (c.self.invariant.kept.near c.if-self.false))
