use Rattle.run_history.proofs.PairedOnce.{by_order, by_value}
use Rattle.run_history.proofs.pairs.Pairs.add.Goals as goal

pub returns-clause-by_order : goal.returns-clause-by_order
returns-clause-by_order c = λ before is was.
    by_order before c.args.told c.args.self.now c.take.new.self was c.in_ok-take.ensures.put (c.in_ok-take.ensures.first is) c.in_ok-take.ensures.answers

pub returns-clause-by_value : goal.returns-clause-by_value
returns-clause-by_value c = λ before is was.
    by_value before c.args.told c.args.self.now c.take.new.self was c.in_ok-take.ensures.came (λ value. c.in_ok-take.ensures.unanswered value is) (c.in_ok-take.ensures.value is) c.in_ok-take.ensures.answers
