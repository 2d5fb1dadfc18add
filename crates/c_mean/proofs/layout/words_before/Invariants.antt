use Rattle.std.proofs.Common.{◌≡◌, take, sum}
use Rattle.c_mean.proofs.layout.words_before.Given as goal

abbrev pub invariant-loop-size : goal.invariant-loop-size
invariant-loop-size l = l.start ≡ sum (take l.size-index l.sizes)
