-- The answer of an audit.
use Rattle.std.specs.Prelude.{◌≡◌, ℕ, List, Option, Result, Ok, Err}
use Rattle.cap_io.specs.Faults.{Rose}
use Rattle.lawful_reading.specs.Given.{Given}
use Rattle.lawful_reading.specs.Judgements.{IsJudgementOf}
use Rattle.lawful_reading.specs.declared.judgement.Judgement.{Judgement}
use Rattle.schedule_reading.specs.declared.rulings.Failure.{Failure}
use Rattle.schedule_audit.specs.declared.verdicts.Verdict.{Verdict}

-- the verdict is the judgement on the log, if the trace is exposed; the other two say nothing about the log
abbrev pub IsVerdict : Given → Option (List ℕ) → (log : List ℕ) → Verdict → Type 0
IsVerdict g left log Verdict.Lawful = IsJudgementOf g left log Judgement.Lawful
IsVerdict g left log (Verdict.Unlawful line) = IsJudgementOf g left log (Judgement.Unlawful line)
IsVerdict g left log (Verdict.Steps line) = IsJudgementOf g left log (Judgement.Steps line)
IsVerdict g left log Verdict.ReadFault = Unit {0}
IsVerdict g left log Verdict.Memory = Unit {0}

-- the count of the trace's faults rises exactly if the verdict is ReadFault
abbrev pub CountsVerdict : Verdict → (reads reads' : ℕ) → Type 0
CountsVerdict Verdict.Lawful reads reads' = reads' ≡ reads
CountsVerdict (Verdict.Unlawful line) reads reads' = reads' ≡ reads
CountsVerdict (Verdict.Steps line) reads reads' = reads' ≡ reads
CountsVerdict Verdict.ReadFault reads reads' = Rose reads reads'
CountsVerdict Verdict.Memory reads reads' = reads' ≡ reads

-- the verdict after this judgement, or after this failure
abbrev pub verdict_by : Result Judgement Failure → Verdict
verdict_by (Ok Judgement.Lawful) = Verdict.Lawful
verdict_by (Ok (Judgement.Unlawful line)) = Verdict.Unlawful line
verdict_by (Ok (Judgement.Steps line)) = Verdict.Steps line
verdict_by (Err Failure.Read) = Verdict.ReadFault
verdict_by (Err Failure.Memory) = Verdict.Memory
