use Rattle.audited_logs.proofs.OfText.{log_of_text}
use Rattle.audited_logs.proofs.meanings.logs_are_the_texts.Goals as goal

pub returns : goal.returns
returns c = λ source g trace entries stop end read scoped valid areas fuel log. log_of_text source g trace entries stop end read scoped valid areas fuel log
