use Rattle.std.proofs.Common.{arith}
use Rattle.std.proofs.lemmas.Grind.{common_steps}
use Rattle.blocking_graph.proofs.EdgeLemmas.{edges_with-found, edges_with-new, edges_with-last}
use Rattle.blocking_graph.proofs.adding.add.Goals as goal
use Rattle.blocking_graph.proofs.adding.add.Goals.{else-place-len-via-then-place-len+else-is_of, else-place-len-via-else-place-len}

pub returns-then-is_of-clause-ok : goal.returns-then-is_of-clause-ok
returns-then-is_of-clause-ok c = grind (arith, common_steps, edges_with-found)

pub returns-in_ok-insert-clause-ok : goal.returns-in_ok-insert-clause-ok
returns-in_ok-insert-clause-ok c =
    elim c.else-place-len.branch [
      | else-place-len-via-then-place-len+else-is_of w ↦ grind (arith, common_steps, edges_with-new, c.in_ok-insert.ensures.items)
      | else-place-len-via-else-place-len w ↦ grind (arith, common_steps, edges_with-last, c.in_ok-insert.ensures.items)
    ]
