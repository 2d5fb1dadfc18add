use Rattle.run_history.proofs.Common.{rules, ◌≡◌, ℤ, ◌++◌, ◌∷◌, [], OnOk, sym, subst, if◌then◌else◌, w32, to_z, of_z, int_eq, waiting_in, waiting_item}
use Rattle.schedule_log.specs.declared.entries.Item.{Item}
use Rattle.run_history.proofs.pairs.Pairs.come.Goals as goal

pub returns-in-Arrive-clause-unanswered : goal.returns-in-Arrive-clause-unanswered
returns-in-Arrive-clause-unanswered c = λ value is.
    let round : to_z w32 (of_z w32 c.in-Arrive.value) ≡ c.in-Arrive.value = search rules in
    let told : OnOk c.come_with.result (waiting_in c.come_with.new.self.unanswered value ≡ if int_eq c.in-Arrive.value value then waiting_in c.args.self.now.unanswered value ++ c.args.self.now.came ∷ [] else waiting_in c.args.self.now.unanswered value) =
    subst (λ (arrived : ℤ). OnOk c.come_with.result (waiting_in c.come_with.new.self.unanswered value ≡ if int_eq arrived value then waiting_in c.args.self.now.unanswered value ++ c.args.self.now.came ∷ [] else waiting_in c.args.self.now.unanswered value))
    round (c.come_with.ensures.unanswered value is) in
    subst (λ (item : Item). OnOk c.come_with.result (waiting_in c.come_with.new.self.unanswered value ≡ waiting_item item c.args.self.now.came value (waiting_in c.args.self.now.unanswered value)))
    (sym c.in-Arrive.is) told
