use Rattle.thread_waits.proofs.Common.{◌≡◌, replicate, no_number}
use Rattle.thread_waits.proofs.parts.one_block_each.Given as goal

abbrev pub invariant-loop-made : goal.invariant-loop-made
invariant-loop-made l = l.trees.items ≡ replicate l.made (replicate 1 no_number)
