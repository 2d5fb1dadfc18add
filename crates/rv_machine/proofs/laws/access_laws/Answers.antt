use Rattle.rv_machine.proofs.AccessLaws.{bytes_after-outcome, outcome-same, Fills-outcome}
use Rattle.rv_machine.proofs.laws.access_laws.Goals as goal

pub returns-clause-stays : goal.returns-clause-stays
returns-clause-stays c = bytes_after-outcome

pub returns-clause-depends : goal.returns-clause-depends
returns-clause-depends c = outcome-same

pub returns-clause-fills : goal.returns-clause-fills
returns-clause-fills c = Fills-outcome
