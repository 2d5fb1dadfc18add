use Rattle.std.proofs.Common.{Some, arith}
use Rattle.chunk_budget.proofs.KnownLemmas.{right-set}
use Rattle.chunk_budget.proofs.heights.keep.Goals as goal

pub returns : goal.returns
returns c = λ code heights was newest. record { kept = right-set code heights c.args.known.now.kept c.args.known.now.oldest (Some c.args.newest) was.kept newest; oldest = omega arith }
