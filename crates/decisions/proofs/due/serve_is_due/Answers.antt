use Rattle.decisions.proofs.Serving.{serve_words_due}
use Rattle.decisions.proofs.due.serve_is_due.Goals as goal

pub returns : goal.returns
returns c = serve_words_due
