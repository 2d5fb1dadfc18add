use Rattle.run_history.proofs.Common.{◌≡◌, ℕ, OnOk, sym, subst, get, nat_cmp, Happening, started_with}
use Rattle.run_history.proofs.followed.Followed.take.Goals as goal

pub returns-in-Ran-clause-started : goal.returns-in-Ran-clause-started
returns-in-Ran-clause-started c =
    subst (λ (told : Happening). (thread : ℕ) → OnOk c.run.result (get nat_cmp c.run.new.self.started thread ≡ started_with told c.args.self.now.segments c.args.self.now.left.now (λ one. get nat_cmp c.args.self.now.started one) thread))
    (sym c.in-Ran.is) c.run.ensures.started
