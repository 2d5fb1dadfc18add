use Rattle.scope_rules.proofs.Common.{raw_program_tree}
use Rattle.scope_rules.proofs.Made.{only_resolved, only_refused}
use Rattle.scope_rules.proofs.resolver.resolve.Goals as goal

pub returns-clause-only_resolved : goal.returns-clause-only_resolved
returns-clause-only_resolved c = only_resolved (raw_program_tree c.args.raw.now) c.decide.result c.decide.ensures.resolved c.decide.ensures.refused

pub returns-clause-only_refused : goal.returns-clause-only_refused
returns-clause-only_refused c = only_refused (raw_program_tree c.args.raw.now) c.decide.result c.decide.ensures.resolved c.decide.ensures.refused
