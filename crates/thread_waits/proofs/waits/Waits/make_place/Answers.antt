use Rattle.std.proofs.Common.{◌+◌, ◌/◌, ◌≤◌, [], length, refl, arith, slice_index_or}
use Rattle.thread_waits.proofs.GrownLaws.{grown_counted}
use Rattle.thread_waits.proofs.waits.Waits.make_place.Goals as goal

pub invariant_of-self-in_err-grow_places : goal.invariant_of-self-in_err-grow_places
invariant_of-self-in_err-grow_places c =
    grown_counted c.self.inside _ c.self.invariant refl refl refl refl c.in_err-grow_places.ensures.same c.grow_tree.ensures.grown
    (let h : length c.grow_places.new.places.items ≤ c.args.place + 1 + c.args.place / 2 = c.in_err-grow_places.ensures.most in let k : (c.args.place + 1 + c.args.place / 2) / 16 + 1 ≤ length c.grow_tree.new.tree = c.in_ok-grow_tree.ensures.ok in omega arith)
    c.grow_trees.ensures.eight c.grow_trees.ensures.grown
    (λ r b. let h : length c.grow_places.new.places.items ≤ c.args.place + 1 + c.args.place / 2 = c.in_err-grow_places.ensures.most in let k : (c.args.place + 1 + c.args.place / 2) / 16 + 1 ≤ length (slice_index_or c.grow_trees.new.trees.items r []) = c.in_ok-grow_trees.ensures.ok r b in omega arith)

pub invariant_of-self-2 : goal.invariant_of-self-2
invariant_of-self-2 c =
    grown_counted c.self.inside _ c.self.invariant refl refl refl refl c.in_ok-grow_places.ensures.same c.grow_tree.ensures.grown
    (let h : length c.grow_places.new.places.items ≤ c.args.place + 1 + c.args.place / 2 = c.in_ok-grow_places.ensures.most in let k : (c.args.place + 1 + c.args.place / 2) / 16 + 1 ≤ length c.grow_tree.new.tree = c.in_ok-grow_tree.ensures.ok in omega arith)
    c.grow_trees.ensures.eight c.grow_trees.ensures.grown
    (λ r b. let h : length c.grow_places.new.places.items ≤ c.args.place + 1 + c.args.place / 2 = c.in_ok-grow_places.ensures.most in let k : (c.args.place + 1 + c.args.place / 2) / 16 + 1 ≤ length (slice_index_or c.grow_trees.new.trees.items r []) = c.in_ok-grow_trees.ensures.ok r b in omega arith)
