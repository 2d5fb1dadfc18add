use Rattle.run_history.proofs.Common.{◌≡◌, ℤ, ◌++◌, ◌∷◌, [], OnOk, subst, if◌then◌else◌, w32, to_z-of_z, int_eq, waiting_in}
use Rattle.run_history.proofs.pairs.Pairs.come_with.Goals as goal

pub returns-in-Value-clause-unanswered : goal.returns-in-Value-clause-unanswered
returns-in-Value-clause-unanswered c = λ other _.
    subst (λ (value : ℤ). OnOk c.join.result (waiting_in c.join.new.unanswered other ≡ if int_eq value other then waiting_in c.args.self.now.unanswered other ++ c.args.self.now.came ∷ [] else waiting_in c.args.self.now.unanswered other))
    (to_z-of_z {w = w32} {z = c.args.value} c.ranges.value) (c.join.ensures other)
