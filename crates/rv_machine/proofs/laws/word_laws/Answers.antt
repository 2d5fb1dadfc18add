use Rattle.rv_machine.proofs.WordLaws.{IsWords-outcome, TellsWords-outcome}
use Rattle.rv_machine.proofs.laws.word_laws.Goals as goal

pub returns-clause-stay : goal.returns-clause-stay
returns-clause-stay c = IsWords-outcome

pub returns-clause-told : goal.returns-clause-told
returns-clause-told c = TellsWords-outcome
