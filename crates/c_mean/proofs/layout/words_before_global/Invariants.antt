use Rattle.std.proofs.Common.{◌≡◌, take, sum}
use Rattle.c_mean.specs.Layout.{widths_of}
use Rattle.c_mean.proofs.layout.words_before_global.Given as goal

abbrev pub invariant-loop-fact : goal.invariant-loop-fact
invariant-loop-fact l = l.start ≡ sum (take l.fact-index (widths_of l.facts))
