use Rattle.run_history.proofs.Outputs.{in-order}
use Rattle.run_history.proofs.laws.outputs_answer_in_order.Goals as goal

pub returns : goal.returns
returns c = in-order
