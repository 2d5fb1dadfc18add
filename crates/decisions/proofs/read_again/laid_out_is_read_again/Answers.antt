use Rattle.decisions.proofs.Together.{read_again}
use Rattle.decisions.proofs.read_again.laid_out_is_read_again.Goals as goal

pub returns : goal.returns
returns c = read_again
