use Rattle.std.proofs.Common.{arith}
use Rattle.chunk_budget.proofs.KnownLemmas.{none-right}
use Rattle.chunk_budget.proofs.heights.nothing_known.Goals as goal

pub returns : goal.returns
returns c = λ code heights. record { kept = none-right code heights 64; oldest = omega arith }
