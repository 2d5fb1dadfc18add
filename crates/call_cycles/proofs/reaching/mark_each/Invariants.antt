use Rattle.call_cycles.proofs.Common.{◌≡◌, true, take, has, Marks}
use Rattle.call_cycles.proofs.reaching.mark_each.Given as goal

abbrev pub invariant-loop-function : goal.invariant-loop-function
invariant-loop-function l = Marks (λ g. has g (take l.function-index l.functions) ≡ true) l.fn.marks l.fn.left.items l.marks l.left.items
