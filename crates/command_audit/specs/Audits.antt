-- What the command `audit` does: it judges a log on the trace, without a machine.
use Rattle.std.specs.Prelude.{ℕ, ◌≡◌, ◌+◌, true, List, [], ◌∷◌, ◌++◌, codes, replicate, Option, None, Result, Ok, Err}
use Rattle.cap_io.specs.Files.{Files}
use Rattle.cap_text.specs.Decimals.{canonical_decimal}
use Rattle.c_tree.specs.Trees.{ProgramTree}
use Rattle.choice_rules.specs.Policy.{Policy, by_graph}
use Rattle.command_words.specs.declared.options.Audit.{Audit as AuditOptions}
use Rattle.lawful_reading.specs.Given.{Given}
use Rattle.lawful_reading.specs.Judgements.{IsJudgementOf}
use Rattle.lawful_reading.specs.declared.judgement.Judgement.{Judgement}
use Rattle.resource_monitor.specs.declared.curves.Curve.TheVariants.{Knee}
use Rattle.schedule_reading.specs.declared.policy.AuditPolicy.{AuditPolicy}
use Rattle.schedule_audit.specs.declared.verdicts.Verdict.{Verdict}
use Rattle.command_outcomes.specs.declared.documents.Document.TheVariants as document
use Rattle.command_outcomes.specs.declared.faults.Fault.TheVariants.{Read, Memory}
use Rattle.command_outcomes.specs.declared.stops.Stop.{Stop}
use Rattle.command_outcomes.specs.declared.stops.Stop.TheVariants.{Refused, Failed}
use Rattle.command_files.specs.Loads.{AfterLoad, AfterSource}
use Rattle.command_outcomes.specs.Outcome.{Outcome}
use Rattle.command_outcomes.specs.Steps.{IsReadStop}

-- ---- what a log is read against

-- the policy of an audit. The chunks are those of both options together, since only their number matters. The rule is
-- the priority rule, and the pressure curves of all resources have one knee.
abbrev pub reading_policy : AuditOptions → Policy
reading_policy options = record {
  chunks = options.policy.chunks + options.policy.extra;
  extra = 0;
  extra_bytes = 0;
  fuel = options.policy.fuel;
  backlog = options.policy.backlog;
  caps = options.policy.caps;
  curves = replicate 8 (Knee options.policy.knee);
  high = options.policy.high;
  low = options.policy.low;
  rule = by_graph;
}

abbrev pub reading_of : ProgramTree → AuditOptions → Given
reading_of program options = record { program = program; policy = reading_policy options; most_steps = options.steps }

-- ---- judgements

-- the status and the line of a judgement on a log
abbrev pub judgement_status : Judgement → ℕ
judgement_status Judgement.Lawful = 0
judgement_status (Judgement.Unlawful line) = 15
judgement_status (Judgement.Steps line) = 16

abbrev pub judgement_line : Judgement → List ℕ
judgement_line Judgement.Lawful = codes "lawful" ++ 10 ∷ []
judgement_line (Judgement.Unlawful line) = (codes "unlawful " ++ canonical_decimal line) ++ 10 ∷ []
judgement_line (Judgement.Steps line) = (codes "steps " ++ canonical_decimal line) ++ 10 ∷ []

-- the outcome: the line for the output, and no run
abbrev pub judged_outcome : Judgement → Outcome
judged_outcome is = record {
  status = judgement_status is;
  out = judgement_line is;
  line = [];
  stores = [];
  last = None;
  reads_trace = true;
}

-- ---- the command

-- what is due for a program and a log, and for the bytes of a source and a log
abbrev pub AuditsProgram : Option (List ℕ) → AuditOptions → (log : List ℕ) → ProgramTree → Outcome → Type 0
AuditsProgram trace options log program outcome =
    (is : Judgement) × IsJudgementOf (reading_of program options) trace log is × (outcome ≡ judged_outcome is)

abbrev pub AuditsBytes : Option (List ℕ) → AuditOptions → (source log : List ℕ) → Outcome → Type 0
AuditsBytes trace options source log = AfterSource source (AuditsProgram trace options log)

-- what is due for the words of `audit`; source and log are loaded in this order, before the source is read
abbrev pub Audits : Option Files → Option (List ℕ) → (source_name log_name : List ℕ) → AuditOptions → Outcome → Type 0
Audits files trace source_name log_name options =
    AfterLoad document.Source files source_name (λ source. AfterLoad document.Log files log_name (AuditsBytes trace options source))

-- ---- its steps

-- the limits of an audit, from the options
abbrev pub audit_limits : AuditOptions → AuditPolicy
audit_limits options = record {
  chunks = options.policy.chunks + options.policy.extra;
  fuel = options.policy.fuel;
  backlog = options.policy.backlog;
  caps = options.policy.caps;
  steps = options.steps;
}

-- the judgement on the log, from the answer of an audit
abbrev pub judged_as : Verdict → Result Judgement Stop
judged_as Verdict.Lawful = Ok Judgement.Lawful
judged_as (Verdict.Unlawful line) = Ok (Judgement.Unlawful line)
judged_as (Verdict.Steps line) = Ok (Judgement.Steps line)
judged_as Verdict.ReadFault = Err (Failed Read)
judged_as Verdict.Memory = Err (Failed Memory)

-- a log was judged, and no read failed; or a read failed, or memory ran out
abbrev pub IsJudged : Given → Option (List ℕ) → (log : List ℕ) → (reads reads' : ℕ) → Result Judgement Stop → Type 0
IsJudged g trace log reads reads' (Ok is) = IsJudgementOf g trace log is × (reads' ≡ reads)
IsJudged g trace log reads reads' (Err (Failed fault)) = IsReadStop fault reads reads'
IsJudged g trace log reads reads' (Err (Refused cause)) = ⊥

-- the judgement on this log of this program is what is due
abbrev pub LeadsToAudit : Option Files → (source_name log_name log : List ℕ) → ProgramTree → Type 0
LeadsToAudit files source_name log_name log program =
    (trace : Option (List ℕ)) (options : AuditOptions) (outcome : Outcome) → AuditsProgram trace options log program outcome
    → Audits files trace source_name log_name options outcome
