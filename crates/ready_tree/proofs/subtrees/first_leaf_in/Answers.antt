use Rattle.ready_tree.proofs.Common.{◌≡◌, ◌<◌, ◌*◌, false, sym, ap, ◌∙◌, arith, is_some_met, node_at}
use Rattle.ready_tree.proofs.NextLaws.{reached_left, reached_leaf, reached_right, reached_there}
use Rattle.ready_tree.proofs.subtrees.first_leaf_in.Goals as goal

pub needs_at-requires : goal.needs_at-requires
needs_at-requires c =
    let half = c.loop-half.half in
    reached_there c.args.bounds.now c.args.nodes.now c.requires.joined (record half { level = half.level * 2; node = half.node * 2 })
    (reached_left c.args.bounds.now c.args.nodes.now c.requires.joined half c.loop-half.invariant.reached c.loop-half-test.true)

pub loop-half-preserved-then-not-meet_some : goal.loop-half-preserved-then-not-meet_some
loop-half-preserved-then-not-meet_some c =
    let half = c.loop-half.half in
    let to : half.node < 2 * half.level = c.loop-half.invariant.reached.to in
    let left = reached_left c.args.bounds.now c.args.nodes.now c.requires.joined half c.loop-half.invariant.reached c.loop-half-test.true in
    let none : is_some_met c.args.bounds.now (node_at c.args.nodes.now (half.node * 2)) ≡ false =
    ap (is_some_met c.args.bounds.now) (sym c.needs_at.ensures) ∙ sym c.meet_some.ensures ∙ c.if-not-meet_some.true in
    record {
      first = c.loop-half.invariant.first;
      reached = reached_right c.args.bounds.now c.args.nodes.now c.requires.joined (record half { level = half.level * 2; node = half.node * 2 }) left (omega arith) none;
    }

pub loop-half-preserved : goal.loop-half-preserved
loop-half-preserved c = record {
  first = c.loop-half.invariant.first;
  reached = reached_left c.args.bounds.now c.args.nodes.now c.requires.joined c.loop-half.half c.loop-half.invariant.reached c.loop-half-test.true;
}

pub returns : goal.returns
returns c = rw (← c.loop-half.invariant.first) (reached_leaf c.args.bounds.now c.args.nodes.now c.requires.joined c.loop-half.half c.loop-half.invariant.reached (let last = c.loop-half-test.false in omega arith))
