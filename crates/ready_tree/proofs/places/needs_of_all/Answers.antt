use Rattle.std.proofs.Common.{◌≤◌, length, arith, rules}
use Rattle.ready_tree.proofs.PlaceLaws.{covers_entries, root_covers}
use Rattle.ready_tree.proofs.places.needs_of_all.Goals as goal

pub returns-then-is_empty : goal.returns-then-is_empty
returns-then-is_empty c = covers_entries c.needs_between.result c.args.places.now (λ place there. c.needs_between.ensures place (omega arith) there)

pub returns : goal.returns
returns c =
    let some : 1 ≤ length c.args.nodes.now = search rules in
    covers_entries c.needs_at.result c.args.places.now (λ place there. rw c.needs_at.ensures (root_covers c.args.nodes.now c.args.places.now (c.requires some) place there))
