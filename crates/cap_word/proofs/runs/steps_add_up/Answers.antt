use Rattle.cap_word.proofs.RunLemmas.{moves_add, asks_stay, stops_stay, run_adds, over_stays}
use Rattle.cap_word.proofs.runs.steps_add_up.Goals as goal

pub returns-clause-moves_add : goal.returns-clause-moves_add
returns-clause-moves_add g c = moves_add

pub returns-clause-asks_stay : goal.returns-clause-asks_stay
returns-clause-asks_stay g c = asks_stay

pub returns-clause-stops_stay : goal.returns-clause-stops_stay
returns-clause-stops_stay g c = stops_stay

pub returns-clause-run_adds : goal.returns-clause-run_adds
returns-clause-run_adds g c = run_adds

pub returns-clause-over_stays : goal.returns-clause-over_stays
returns-clause-over_stays g c = over_stays
