use Rattle.decisions.proofs.Serving.{demo_words_due}
use Rattle.decisions.proofs.due.demo_is_due.Goals as goal

pub returns : goal.returns
returns c = demo_words_due
