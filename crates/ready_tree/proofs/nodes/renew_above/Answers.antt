use Rattle.ready_tree.proofs.Common.{◌≡◌, ℕ, ◌*◌, ◌/◌, ◌+◌, ◌<◌, ◌≤◌, length, arith, ◌∙◌, get_or-set_other, length-set, IsJoin, node_at, no_needs}
use Rattle.ready_tree.proofs.NodeLaws.{step_up}
use Rattle.ready_tree.proofs.nodes.renew_above.Goals as goal

pub loop-node-preserved : goal.loop-node-preserved
loop-node-preserved c =
    let nodes = c.loop-node.nodes in
    let n : ℕ = c.loop-node.node / 2 in
    let even : length nodes ≡ 2 * (length nodes / 2) = c.loop-node.invariant.others.whole.even in
    let there : c.loop-node.node < length nodes = c.loop-node.invariant.there in
    let joined : IsJoin c.join.result (node_at nodes (2 * n)) (node_at nodes (2 * n + 1)) = rw (c.needs_at-left.ensures, c.needs_at-right.ensures) at c.join.ensures in
    record {
      long = length-set nodes n c.join.result ∙ c.loop-node.invariant.long;
      inner = omega arith;
      there = rw (length-set nodes n c.join.result) (omega arith);
      others = step_up nodes n c.join.result c.loop-node.invariant.others joined (omega arith) (omega arith);
      leaves = λ leaf behind.
          let half : length nodes / 2 ≤ leaf = rw (length-set nodes n c.join.result) at behind in
          get_or-set_other nodes n leaf c.join.result no_needs (λ e. absurd (omega arith)) ∙ c.loop-node.invariant.leaves leaf half;
    }

pub returns-clause-leaves : goal.returns-clause-leaves
returns-clause-leaves c = λ leaf behind.
    let long : length c.loop-node.nodes ≡ length c.args.nodes.now = c.loop-node.invariant.long in
    c.loop-node.invariant.leaves leaf (omega arith)
