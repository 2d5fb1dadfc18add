use Rattle.std.proofs.Common.{◌≡◌, take}
use Rattle.source_runs.proofs.Words.{first_of}
use Rattle.source_runs.proofs.layout.first_words.Given as goal

abbrev pub invariant-loop-fact : goal.invariant-loop-fact
invariant-loop-fact l = l.words.items ≡ first_of (take l.fact-index l.facts)
