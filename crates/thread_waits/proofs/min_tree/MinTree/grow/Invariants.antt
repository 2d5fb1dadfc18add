use Rattle.std.proofs.Common.{◌≡◌, ◌-◌, ◌++◌, take, replicate}
use Rattle.thread_waits.proofs.min_tree.MinTree.grow.Given as goal

abbrev pub invariant-loop-place : goal.invariant-loop-place
invariant-loop-place l = l.grown ≡ take l.place l.self ++ replicate (l.count - l.place) 18446744073709551615
