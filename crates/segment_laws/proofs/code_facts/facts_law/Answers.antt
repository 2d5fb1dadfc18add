use Rattle.segment_laws.proofs.ValidFacts.{CodeFacts-valid}
use Rattle.segment_laws.proofs.code_facts.facts_law.Goals as goal

pub returns : goal.returns
returns c = CodeFacts-valid
