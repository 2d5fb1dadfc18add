use Rattle.std.proofs.Common.{◌≡◌, take}
use Rattle.c_mean.specs.Layout as rows
use Rattle.source_runs.proofs.layout.widths_of.Given as goal

abbrev pub invariant-loop-fact : goal.invariant-loop-fact
invariant-loop-fact l = l.widths.items ≡ rows.widths_of (take l.fact-index l.facts)
