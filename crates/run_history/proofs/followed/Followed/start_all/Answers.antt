use Rattle.run_history.proofs.Common.{rules, ◌≡◌, ◌∙◌, sym, ap, List, nat_eq, false, ne_eqb, Spawned, get, nat_cmp, inherits}
use Rattle.run_history.proofs.Paired.{inherits-over, inherits-later}
use Rattle.run_history.proofs.followed.Followed.start_all.Goals as goal

pub returns-then-one-self-clause-started : goal.returns-then-one-self-clause-started
returns-then-one-self-clause-started c = λ thread.
    let later : nat_eq c.in-Some.one.now.segment c.loop-one.self.segments ≡ false = ne_eqb c.in-Some.one.now.segment c.loop-one.self.segments c.if-one-self.true in
    sym (inherits-later c.loop-one.self.segments c.args.request thread c.in-Some.one.now c.in-Some.rest.now (get nat_cmp c.loop-one.self.started thread) later)
    ∙ (ap (λ (left : List Spawned). inherits c.loop-one.self.segments c.args.request thread left (get nat_cmp c.loop-one.self.started thread)) (sym c.in-Some.ensures.cases.0)
    ∙ (c.loop-one.invariant.0 thread ∙ ap (λ n. inherits n c.args.request thread c.args.self.now.left.now (get nat_cmp c.args.self.now.started thread)) (search rules)))

pub returns-clause-started : goal.returns-clause-started
returns-clause-started c = λ thread.
    sym (inherits-over c.loop-one.self.segments c.args.request thread c.loop-one.self.left.now (get nat_cmp c.loop-one.self.started thread) (search rules))
    ∙ (c.loop-one.invariant.0 thread ∙ ap (λ n. inherits n c.args.request thread c.args.self.now.left.now (get nat_cmp c.args.self.now.started thread)) (search rules))
