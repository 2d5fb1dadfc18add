use Rattle.std.proofs.Common.{refl}
use Rattle.ready_tree.proofs.NeedLaws.{of_nothing, of_arrival, of_event, of_amount}
use Rattle.ready_tree.proofs.needs.Needs.of.Goals as goal

pub returns-in-Nothing : goal.returns-in-Nothing
returns-in-Nothing c = λ bounds met. of_nothing bounds _ refl

pub returns-in-Arrival : goal.returns-in-Arrival
returns-in-Arrival c = λ bounds met. of_arrival bounds _ (rw c.in-Arrival.is at met) refl

pub returns-in-Event : goal.returns-in-Event
returns-in-Event c = λ bounds met. of_event bounds _ (rw c.in-Event.is at met)

pub returns-in-Amount : goal.returns-in-Amount
returns-in-Amount c = λ bounds met. of_amount bounds _ c.in-Amount.resource c.in-Amount.amount c.only.ensures (rw c.in-Amount.is at met)
