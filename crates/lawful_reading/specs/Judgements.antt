-- The judgement on a log.
use Rattle.std.specs.Prelude.{ℕ, List, Option, IfSome}
use Rattle.lawful_reading.specs.Given.{Given}
use Rattle.lawful_reading.specs.Reading.{IsLawful, IsTooLong, IsUnlawful}
use Rattle.lawful_reading.specs.declared.judgement.Judgement.{Judgement}

-- the judgement on a log by its lawful reading
abbrev pub IsJudgement : Given → (trace log : List ℕ) → Judgement → Type 0
IsJudgement g trace log Judgement.Lawful = IsLawful g trace log
IsJudgement g trace log (Judgement.Unlawful line) = IsUnlawful g trace log line
IsJudgement g trace log (Judgement.Steps line) = IsTooLong g trace log line

-- the same, if the trace exposes its bytes
abbrev pub IsJudgementOf : Given → Option (List ℕ) → (log : List ℕ) → Judgement → Type 0
IsJudgementOf g left log judgement = IfSome left (λ trace. IsJudgement g trace log judgement)
