-- The summary of a run: counts over its program, its certificate and its log, and their text.
use Rattle.std.specs.Prelude.{ℕ, ◌+◌, ℤ, ◌+ℤ◌, pos, Bool, true, false, List, [], ◌∷◌, ◌++◌, length, codes, count_by}
use Rattle.cap_text.specs.Decimals.{canonical_decimal, canonical_integer}
use Rattle.c_tree.specs.Trees.{ProgramTree}
use Rattle.c_tree.specs.TextOrder.{program_sites}
use Rattle.lawful_log.specs.Setup.{Setup}
use Rattle.schedule_log.specs.EntryText.{entry_text}
use Rattle.schedule_log.specs.declared.entries.Entry.{Entry}
use Rattle.schedule_log.specs.declared.entries.Entry.TheVariants.{Event, Dropped, Run, Out, Block, End, Edge, Stop}
use Rattle.schedule_log.specs.declared.entries.StopLine.{StopLine}
use Rattle.schedule_log.specs.declared.entries.StopLine.TheVariants.{Done, Idle, Trace, Cut}
use Rattle.stack_certificate.specs.declared.certificates.Certificate.{Certificate}
use Rattle.stack_certificate.specs.declared.sites.SiteFact.{SiteFact}
use Rattle.stack_certificate.specs.declared.sites.LinkKind.{LinkKind}
use Rattle.stack_certificate.specs.declared.sites.LinkKind.TheVariants.{Plain, Linked, Spawned}
use Rattle.capriccio_commands.specs.declared.summaries.Census.{Census}
use Rattle.capriccio_commands.specs.declared.summaries.Tally.{Tally}

-- the site is checkpointed: a call there may link a chunk
abbrev pub links : LinkKind → Bool
links Plain = false
links (Linked need) = true
links (Spawned need) = false

-- the functions and call sites of a program, and its checkpointed sites
abbrev pub census_of : ProgramTree → Certificate → Census
census_of program certificate = record {
  functions = length program.functions;
  sites = length (program_sites program);
  checkpoints = count_by (λ (fact : SiteFact). links fact.kind) certificate.sites;
}

-- the tally of no entries
abbrev pub no_tally : Tally
no_tally = record { choices = 0; outputs = 0; sum = pos 0; cost = 0 }

-- the tally with more retired instructions
abbrev pub with_cost : ℕ → Tally → Tally
with_cost cost t = record { choices = t.choices; outputs = t.outputs; sum = t.sum; cost = t.cost + cost }

-- the tally with one more entry: a `run` line is a choice, an `out` line is an output with its value, and the line that
-- ends a segment has its instructions
abbrev pub counted : Entry → Tally → Tally
counted (Event clock item) t = t
counted (Dropped clock item) t = t
counted (Run clock thread node) t = record { choices = t.choices + 1; outputs = t.outputs; sum = t.sum; cost = t.cost }
counted (Out thread value) t = record { choices = t.choices; outputs = t.outputs + 1; sum = t.sum +ℤ value; cost = t.cost }
counted (Block thread node key cost free) t = with_cost cost t
counted (End thread cost free) t = with_cost cost t
counted (Edge from to count cost changes) t = t
counted (Stop Done) t = t
counted (Stop Idle) t = t
counted (Stop (Trace line)) t = t
counted (Stop (Cut thread stop cost free)) t = with_cost cost t

-- the tally of some entries, added to an earlier tally
abbrev pub tally_from : Tally → List Entry → Tally
tally_from t [] = t
tally_from t (entry ∷ entries) = tally_from (counted entry t) entries

abbrev pub tally_of : List Entry → Tally
tally_of entries = tally_from no_tally entries

-- the text of the last entry, or the given text if there is none
abbrev pub last_from : List ℕ → List Entry → List ℕ
last_from text [] = text
last_from text (entry ∷ entries) = last_from (entry_text entry) entries

-- the lines of the summary
abbrev pub count_line : List ℕ → ℕ → List ℕ
count_line name number = (name ++ canonical_decimal number) ++ 10 ∷ []

abbrev pub sum_line : List ℕ → ℤ → List ℕ
sum_line name value = (name ++ canonical_integer value) ++ 10 ∷ []

abbrev pub census_text : Census → List ℕ
census_text c = (count_line (codes "functions ") c.functions ++ count_line (codes "sites ") c.sites) ++ count_line (codes "checkpoints ") c.checkpoints

abbrev pub tally_text : Tally → List ℕ
tally_text t = ((count_line (codes "choices ") t.choices ++ count_line (codes "outputs ") t.outputs) ++ sum_line (codes "sum ") t.sum) ++ count_line (codes "cost ") t.cost

-- the whole summary, with the stop line of the log
abbrev pub summary_text : Census → Tally → List ℕ → List ℕ
summary_text c t last = ((census_text c ++ tally_text t) ++ last) ++ 10 ∷ []

-- the summary of a run
abbrev pub summary_of : Setup → List Entry → StopLine → List ℕ
summary_of g entries stop = summary_text (census_of g.program g.certificate) (tally_of entries) (entry_text (Stop stop))
