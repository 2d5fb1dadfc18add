use Rattle.std.proofs.Common.{◌≡◌, ◌+◌, replicate}
use Rattle.chunk_pool.proofs.region.zeroed.Given as goal

abbrev pub invariant-loop-index : goal.invariant-loop-index
invariant-loop-index l = (l.words.at ≡ l.start.at) × (l.words.items ≡ replicate l.index 0) × (l.words.spare + l.index ≡ l.len)
