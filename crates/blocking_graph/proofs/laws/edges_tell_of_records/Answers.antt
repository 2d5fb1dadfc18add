use Rattle.blocking_graph.proofs.PairLemmas.{edges_of-told}
use Rattle.blocking_graph.proofs.laws.edges_tell_of_records.Goals as goal

pub returns : goal.returns
returns c = record { told = edges_of-told }
