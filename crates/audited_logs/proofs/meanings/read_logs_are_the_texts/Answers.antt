use Rattle.audited_logs.proofs.ReadLines.{log_of_source}
use Rattle.audited_logs.proofs.meanings.read_logs_are_the_texts.Goals as goal

pub returns : goal.returns
returns c = λ source g trace log read scoped lawful. log_of_source source g trace log read scoped lawful
