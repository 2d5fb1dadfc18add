use Rattle.run_history.proofs.Paired.{first_of}
use Rattle.run_history.proofs.Common.{rules, ◌≡◌, ◌∙◌, ℕ, Option, Some, None, take, sym, ap, w32, Global, to_z-of_z, get, int_cmp, waiting_of}
use Rattle.std.specs.declared.collections.VecDeque.{VecDeque}
use Rattle.run_history.proofs.pairs.take_oldest.Goals as goal

pub returns-in-Some-clause-oldest : goal.returns-in-Some-clause-oldest
returns-in-Some-clause-oldest c =
    let there : get int_cmp c.args.unanswered.now c.args.value ≡ Some c.in-Some.queue.now =
    ap (λ z. get int_cmp c.args.unanswered.now z) (sym (to_z-of_z {w = w32} {z = c.args.value} c.ranges.value)) ∙ sym c.in-Some.ensures.value in
    first_of c.in-Some.queue.now.items c.pop_front.new.self.items c.pop_front.result 0 c.pop_front.ensures.items (λ some. c.pop_front.ensures.value 0 (search rules)) ∙ ap (λ (o : Option (VecDeque ℕ Global)). take 1 (waiting_of o)) (sym there)

pub returns-in-None-clause-oldest : goal.returns-in-None-clause-oldest
returns-in-None-clause-oldest c =
    let none : get int_cmp c.args.unanswered.now c.args.value ≡ None =
    ap (λ z. get int_cmp c.args.unanswered.now z) (sym (to_z-of_z {w = w32} {z = c.args.value} c.ranges.value)) ∙ sym c.in-None.ensures.value in
    ap (λ (o : Option (VecDeque ℕ Global)). take 1 (waiting_of o)) (sym none)
