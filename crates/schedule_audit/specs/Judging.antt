-- What is said of the bytes of a line, and of a log up to its verdict.
use Rattle.std.specs.Prelude.{◌≡◌, ℕ, suc, List, ◌++◌, length, Option, IfSome, Result, Ok, Err}
use Rattle.lawful_reading.specs.Given.{Given}
use Rattle.lawful_reading.specs.Reading.{IsBeyond, Leads}
use Rattle.lawful_reading.specs.State.{State, start_of}
use Rattle.lawful_reading.specs.Judgements.{IsJudgementOf}
use Rattle.lawful_reading.specs.declared.judgement.Judgement.{Judgement}
use Rattle.schedule_log.specs.EntryRanges.{FitsEntry}
use Rattle.schedule_log.specs.EntryText.{entry_text, log_text}
use Rattle.schedule_log.specs.declared.entries.Entry.{Entry}
use Rattle.schedule_reading.specs.declared.rulings.Failure.{Failure}
use Rattle.schedule_reading.specs.declared.rulings.Ruling.{Ruling}
use Rattle.schedule_reading.specs.declared.rulings.Ruling.TheVariants as ruling
use Rattle.schedule_reading.specs.Rulings.{Allows, Refuses}
use Rattle.schedule_reading.specs.Kept.{Kept}
use Rattle.schedule_reading.specs.Stands.{IsTold, Stands}

-- ---- a line

-- these are the bytes of the line of this entry
pub record IsLine (line : List ℕ) (entry : Entry) : Type 0 where
  pub fits : FitsEntry entry
  pub text : entry_text entry ≡ line

-- the ruling is that of the entry whose line this is, or the line is that of no entry
abbrev pub RulesLine : Given → State → Kept → List ℕ → Option (List ℕ) → Kept → Option (List ℕ) → Result Ruling Failure → Type 0
RulesLine g state old line told new told' (Ok ruling.Allowed) = (entry : Entry) × IsLine line entry × Allows g state old entry told new told'
RulesLine g state old line told new told' (Ok ruling.Refused) = IsTold state old told → (entry : Entry) → IsLine line entry → Refuses g state entry
RulesLine g state old line told new told' (Ok ruling.OutOfSteps) = (entry : Entry) × IsLine line entry × IsBeyond g state entry
RulesLine g state old line told new told' (Err failure) = Unit {0}

-- ---- a log

-- this is the verdict on the log, if the trace is exposed
abbrev pub IsJudged : Given → Option (List ℕ) → List ℕ → Result Judgement Failure → Type 0
IsJudged g left log (Ok verdict) = IsJudgementOf g left log verdict
IsJudged g left log (Err failure) = Unit {0}

-- a log has been read up to this rest, and its next line has this number: if the trace is exposed, the lines so far are
-- allowed, and this is the rest of the trace
pub record IsReadTo (g : Given) (left : Option (List ℕ)) (log rest : List ℕ) (line : ℕ) (k : Kept) (now : Option (List ℕ)) : Type 0 where
  pub entries : List Entry
  pub state : State
  pub stands : Stands g state k
  pub leads : IfSome left (λ trace. Leads g (start_of g trace) entries state)
  pub log_is : log ≡ log_text entries ++ rest
  pub line_is : line ≡ suc (length entries)
  pub told : IfSome left (λ trace. IsTold state k now)

-- the line is neither that of an edge nor a stop
abbrev pub IsNoEnd : Entry → Type 0
IsNoEnd (Entry.Event clock item) = Unit {0}
IsNoEnd (Entry.Dropped clock item) = Unit {0}
IsNoEnd (Entry.Run clock thread node) = Unit {0}
IsNoEnd (Entry.Out thread value) = Unit {0}
IsNoEnd (Entry.Block thread node key cost free) = Unit {0}
IsNoEnd (Entry.End thread cost free) = Unit {0}
IsNoEnd (Entry.Edge from to count cost changes) = ⊥
IsNoEnd (Entry.Stop line) = ⊥
