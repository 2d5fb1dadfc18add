use Rattle.grammar_laws.proofs.Trees.{program_rises}
use Rattle.grammar_laws.proofs.places.places_rise.Goals as goal

pub returns : goal.returns
returns c = program_rises
