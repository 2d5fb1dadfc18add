-- From the judgement on a log, or a failure, to the verdict.
use Rattle.schedule_audit.proofs.Common.{ℕ, List, Option, Result, Ok, Err, Given, Judgement, Failure, IsJudged}
use Rattle.schedule_reading.specs.Rulings.{CountsReads}
use Rattle.schedule_audit.specs.Verdicts.{CountsVerdict, IsVerdict, verdict_by}

pub is_verdict : (g : Given) (left : Option (List ℕ)) (log : List ℕ) (judged : Result Judgement Failure) → IsJudged g left log judged → IsVerdict g left log (verdict_by judged)
is_verdict g left log (Ok Judgement.Lawful) is = is
is_verdict g left log (Ok (Judgement.Unlawful line)) is = is
is_verdict g left log (Ok (Judgement.Steps line)) is = is
is_verdict g left log (Err Failure.Read) is = tt
is_verdict g left log (Err Failure.Memory) is = tt

pub counts_verdict : (judged : Result Judgement Failure) (reads reads' : ℕ) → CountsReads judged reads reads' → CountsVerdict (verdict_by judged) reads reads'
counts_verdict (Ok Judgement.Lawful) reads reads' counts = counts
counts_verdict (Ok (Judgement.Unlawful line)) reads reads' counts = counts
counts_verdict (Ok (Judgement.Steps line)) reads reads' counts = counts
counts_verdict (Err Failure.Read) reads reads' counts = counts
counts_verdict (Err Failure.Memory) reads reads' counts = counts
