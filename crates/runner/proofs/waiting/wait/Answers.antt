use Rattle.runner.proofs.Common.{◌∙◌, ℕ, Option, ap, sym, Held, earlier}
use Rattle.run_course.proofs.Pointed.{resting}
use Rattle.runner.proofs.StepLemmas.{keeps_same}
use Rattle.runner.proofs.Waited.{is_later, is_possible, moves, idles, keeps_wait}
use Rattle.runner.proofs.waiting.wait.Goals as goal

pub advance-requires-clause-between : goal.advance-requires-clause-between
advance-requires-clause-between c = let p = c.requires.point in resting p.0 p.1 p.2 c.args.world.now p.3 c.args.next p.4

pub advance-requires-clause-later : goal.advance-requires-clause-later
advance-requires-clause-later c =
    let p = c.requires.point in
    is_later p.0 p.1 p.2 c.args.world.now p.3 c.args.next p.4 c.requires.not_due c.wake.result c.wake.ensures c.in-Some.time
    (ap (λ (o : Option ℕ). earlier o c.wake.result) (sym c.time_of_event.ensures) ∙ sym c.in-Some.ensures)

pub advance-requires-clause-possible : goal.advance-requires-clause-possible
advance-requires-clause-possible c =
    let p = c.requires.point in
    is_possible p.0 p.1 p.2 c.args.world.now p.3 c.args.next p.4 c.requires.not_due c.wake.result c.wake.ensures c.in-Some.time
    (ap (λ (o : Option ℕ). earlier o c.wake.result) (sym c.time_of_event.ensures) ∙ sym c.in-Some.ensures)

pub returns-in-None-clause-ends : goal.returns-in-None-clause-ends
returns-in-None-clause-ends c = λ g state k left at.
    idles g state k c.args.world.now left c.args.next at c.requires.not_due c.wake.result c.wake.ensures c.requires.unready
    (ap (λ (o : Option ℕ). earlier o c.wake.result) (sym c.time_of_event.ensures) ∙ sym c.in-None.ensures)

pub returns-in-None-clause-keeps : goal.returns-in-None-clause-keeps
returns-in-None-clause-keeps c = keeps_same c.args.world.now

pub returns-in-Some-clause-ends : goal.returns-in-Some-clause-ends
returns-in-Some-clause-ends c = λ g state k left at.
    moves g state k c.args.world.now left c.args.next at c.requires.not_due c.wake.result c.wake.ensures c.requires.unready c.in-Some.time
    (ap (λ (o : Option ℕ). earlier o c.wake.result) (sym c.time_of_event.ensures) ∙ sym c.in-Some.ensures) c.advance.new.self c.advance.ensures

pub returns-in-Some-clause-keeps : goal.returns-in-Some-clause-keeps
returns-in-Some-clause-keeps c = keeps_wait c.args.world.now c.in-Some.time c.advance.new.self c.advance.ensures

pub returns-in-Some-clause-cost : goal.returns-in-Some-clause-cost
returns-in-Some-clause-cost c = ap (λ (h : Held). h.machine.cost) c.advance.ensures
