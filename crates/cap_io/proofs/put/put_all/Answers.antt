use Rattle.std.proofs.Common.{refl, ◌∙◌, arith}
use Rattle.std.proofs.lemmas.Result.{err_from_is_err_and}
use Rattle.cap_io.proofs.Pieces.{PutSoFar-more, PutSoFar-prefix, keeps_by_none}
use Rattle.cap_io.proofs.put.put_all.Goals as goal

pub returns-in_err-taken-clause-bytes : goal.returns-in_err-taken-clause-bytes
returns-in_err-taken-clause-bytes g c =
    let p = err_from_is_err_and c.from_residual.result c.from_residual.ensures.1
    in rw (p.1) (PutSoFar-prefix _ _ _ _ _ c.loop-rest.invariant.0 c.in_err-taken.ensures.bytes)

pub returns-in-0-clause-bytes : goal.returns-in-0-clause-bytes
returns-in-0-clause-bytes g c =
    PutSoFar-prefix _ _ _ _ _ c.loop-rest.invariant.0 (keeps_by_none _ _ (rw c.in-0.is at c.in_ok-taken.ensures.bytes))

pub loop-rest-preserved : goal.loop-rest-preserved
loop-rest-preserved g c =
    (PutSoFar-more _ _ _ _ c.loop-rest.rest.now c.in_ok-taken.taken _ refl c.loop-rest.invariant.0 c.in_ok-taken.ensures.bytes, c.in_ok-taken.ensures.counts.0 (omega arith) ∙ c.loop-rest.invariant.1)
