use Rattle.segment_laws.proofs.ValidCalls.{CallFacts-valid}
use Rattle.segment_laws.proofs.call_facts.call_facts_law.Goals as goal

pub returns : goal.returns
returns c = CallFacts-valid
