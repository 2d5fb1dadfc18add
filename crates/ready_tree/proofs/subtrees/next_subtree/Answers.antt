use Rattle.std.proofs.Common.{◌≤◌, ◌/◌, length, refl, rules}
use Rattle.ready_tree.proofs.NextLaws.{reached_first, reached_level, reached_there}
use Rattle.ready_tree.proofs.subtrees.next_subtree.Goals as goal

pub loop-subtree-init : goal.loop-subtree-init
loop-subtree-init c = record { first = refl; reached = reached_first c.args.bounds.now c.args.nodes.now c.requires.joined c.args.first c.requires.behind c.requires.there }

pub needs_at-requires : goal.needs_at-requires
needs_at-requires c = reached_there c.args.bounds.now c.args.nodes.now c.requires.joined c.loop-subtree.subtree c.loop-subtree.invariant.reached

pub next-requires-clause-small : goal.next-requires-clause-small
next-requires-clause-small c =
    let level : c.loop-subtree.subtree.level ≤ length c.args.nodes.now / 2 = reached_level c.args.bounds.now c.args.nodes.now c.requires.joined c.loop-subtree.subtree c.loop-subtree.invariant.reached in
    search rules
