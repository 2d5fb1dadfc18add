use Rattle.std.proofs.Common.{arith}
use Rattle.ready_tree.proofs.PlaceLaws.{entries_most, pushed, counted}
use Rattle.ready_tree.proofs.ready_tree.ReadyTree.push.Goals as goal

pub overflow_add-self : goal.overflow_add-self
overflow_add-self c =
    let live = c.self.invariant.live in
    let most = entries_most c.self.inside.places.items in
    let small = c.self.inside.places.small in
    omega arith

pub invariant_of-self-2 : goal.invariant_of-self-2
invariant_of-self-2 c = record {
  live = counted c.self.inside.places.items c.make_room.new.places.items c.append.new.places.items c.args.entry c.self.inside.live c.self.invariant.live c.make_room.ensures.same c.in_ok-append.ensures.ok;
  above = c.append.ensures.above;
}

pub returns-clause-ok : goal.returns-clause-ok
returns-clause-ok c =
    rw (← c.self.view_is)
    (pushed c.self.inside.places.items c.make_room.new.places.items c.append.new.places.items c.args.entry c.make_room.ensures.same c.in_ok-append.ensures.ok)
