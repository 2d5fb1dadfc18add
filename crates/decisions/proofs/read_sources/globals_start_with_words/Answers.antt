use Rattle.decisions.proofs.Starts.{starts_with_words}
use Rattle.decisions.proofs.read_sources.globals_start_with_words.Goals as goal

pub returns : goal.returns
returns c = starts_with_words
