-- What is due for the words, the files and the trace: the command as a whole.
use Rattle.std.specs.Prelude.{ℕ, ◌≡◌, ◌⊎◌, List}
use Rattle.command_words.specs.WordList.{IsWordList, Request, Serve, Run, Build, Check, Graph, Demo, Audit, Budget}
use Rattle.command_outcomes.specs.declared.stops.Cause.TheVariants as cause
use Rattle.command_outcomes.specs.Outcome.{Outcome}
use Rattle.command_outcomes.specs.CauseLines.{refusal}
use Rattle.pair_commands.specs.Graphs.{Graphs}
use Rattle.pair_commands.specs.Checks.{Checks}
use Rattle.pair_commands.specs.BuildsFiles.{Builds}
use Rattle.command_audit.specs.Audits.{Audits}
use Rattle.pair_commands.specs.Budgets.{Budgets}
use Rattle.command_outcomes.specs.Done.{Outside}
use Rattle.pair_commands.specs.Runs.{Serves, Runs}
use Rattle.command_options.specs.Options.{sizes_of}
use Rattle.capriccio_commands.specs.Demos.{Demos}

-- what a request does
abbrev pub Does : Request → Outside → Outcome → Type 0
Does (Serve source placement policy) before = Serves before.files before.left source (sizes_of placement) policy
Does (Run source image certificate policy) before = Runs before.files before.left source image certificate policy
Does (Build source image certificate placement) before = Builds before.files source image certificate (sizes_of placement)
Does (Check source image certificate) before = Checks before.files source image certificate
Does (Graph source placement) before = Graphs before.files source placement.max_path
Does (Demo number) before = Demos number
Does (Audit source log options) before = Audits before.files before.left source log options
Does (Budget source image certificate) before = Budgets before.files source image certificate

-- what is due for the words: what they ask for, or a refusal if they aren't a word list
abbrev pub IsDue : List (List ℕ) → Outside → Outcome → Type 0
IsDue words before outcome =
    ((request : Request) × IsWordList words request × Does request before outcome)
    ⊎ (((request : Request) → ¬ IsWordList words request) × (outcome ≡ refusal cause.Usage))
