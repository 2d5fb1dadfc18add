use Rattle.scope_rules.proofs.Made.{only_numbered, only_refused_numbered}
use Rattle.scope_rules.proofs.resolver.Resolver.finish.Goals as goal

pub returns-clause-only_resolved : goal.returns-clause-only_resolved
returns-clause-only_resolved c = λ is r. only_numbered c.args.numbers.now is c.decide.result (c.decide.ensures.resolved is r) (c.decide.ensures.refused is r)

pub returns-clause-only_refused : goal.returns-clause-only_refused
returns-clause-only_refused c = λ is r. only_refused_numbered c.args.numbers.now is c.decide.result (c.decide.ensures.resolved is r) (c.decide.ensures.refused is r)
