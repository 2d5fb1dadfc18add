use Rattle.run_history.proofs.OutputsInTurn.{in-turn}
use Rattle.run_history.proofs.laws.outputs_answer_in_turn.Goals as goal

pub returns : goal.returns
returns c = in-turn
