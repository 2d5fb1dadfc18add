use Rattle.std.proofs.Common.{◌≡◌, map, take}
use Rattle.codegen_link.proofs.areas.entries.Given as goal

abbrev pub invariant-loop-fact : goal.invariant-loop-fact
invariant-loop-fact l = l.words.items ≡ map (λ fact. fact.entry) (take l.fact-index l.fact-items)
