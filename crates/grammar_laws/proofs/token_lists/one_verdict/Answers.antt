use Rattle.grammar_laws.proofs.Outcome.{some_verdict, one_verdict}
use Rattle.grammar_laws.proofs.token_lists.one_verdict.Goals as goal

pub returns-clause-some : goal.returns-clause-some
returns-clause-some c = some_verdict

pub returns-clause-only : goal.returns-clause-only
returns-clause-only c = one_verdict
