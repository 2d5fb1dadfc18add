-- What a run prints is what the loaded source means by itself, without rewriting.
use Rattle.std.specs.Prelude.{ℕ, ◌≡◌, List, Option}
use Rattle.c_hoist.specs.NestedText.{ReadsNested}
use Rattle.cap_io.specs.Files.{Files}
use Rattle.command_files.specs.Loaded.{IsLoaded}
use Rattle.command_outcomes.specs.declared.documents.Document.TheVariants as document
use Rattle.command_words.specs.WordList.{Request, Serve, Run, Build, Check, Graph, Demo, Audit, Budget}
use Rattle.deep_mean.specs.Naming.{deep_program}
use Rattle.lawful_log.specs.Setup.{Setup}
use Rattle.schedule_log.specs.declared.entries.Entry.{Entry}
use Rattle.audited_logs.specs.TextLog.{IsTextLog}
use Rattle.workload.specs.Programs.{program_text}

-- the bytes of the source that a request runs. For `serve` and `run` they are those of the file that the words name, if
-- the shelf exposes its files, and at most as many as a source may have; for `demo` they are those of the workload of
-- its number. No other request runs a source.
abbrev pub IsSourceOf : Request → Option Files → (bytes : List ℕ) → Type 0
IsSourceOf (Serve source placement policy) files bytes = IsLoaded document.Source files source bytes
IsSourceOf (Run source image certificate policy) files bytes = IsLoaded document.Source files source bytes
IsSourceOf (Demo number) files bytes = bytes ≡ program_text number
IsSourceOf (Build source image certificate placement) files bytes = ⊥
IsSourceOf (Check source image certificate) files bytes = ⊥
IsSourceOf (Graph source placement) files bytes = ⊥
IsSourceOf (Audit source log options) files bytes = ⊥
IsSourceOf (Budget source image certificate) files bytes = ⊥

-- the entries are the log of the text that a request runs: its bytes are read as a tree, whose expressions may contain
-- calls, and under the schedule that the entries print, this tree puts, blocks, ends and stops as they say
pub record IsLogOfText (request : Request) (files : Option Files) (setup : Setup) (entries : List Entry) : Type 0 where
  pub source : List ℕ
  pub source_is : IsSourceOf request files source
  pub read : ReadsNested source setup.program
  pub log : IsTextLog (deep_program read.tree) setup.policy.caps entries
