-- What the steps before a run return, and why a run doesn't start.
use Rattle.std.specs.Prelude.{ℕ, ◌≡◌, List, Option}
use Rattle.accepted_pairs.specs.Accepting.{accepted_tree}
use Rattle.accepted_pairs.specs.Acceptance.{Acceptance}
use Rattle.certificate_check.specs.declared.checking.CheckError.{CheckError}
use Rattle.certificate_check.specs.declared.checking.CheckError.TheVariants as checking
use Rattle.command_words.specs.declared.options.Policy.{Policy as RunOptions}
use Rattle.command_outcomes.specs.declared.faults.Fault.TheVariants.{Memory}
use Rattle.command_outcomes.specs.declared.stops.Cause.TheVariants as cause
use Rattle.command_outcomes.specs.declared.stops.Stop.{Stop}
use Rattle.command_outcomes.specs.declared.stops.Stop.TheVariants.{Refused, Failed}
use Rattle.command_outcomes.specs.Outcome.{Outcome}
use Rattle.pair_commands.specs.Runs.{RunsOn, setup_of}

-- what the run of an accepted pair under these options does is due
abbrev pub LeadsOn : Option (List ℕ) → RunOptions → Acceptance → (Outcome → Type 0) → Type 0
LeadsOn trace policy accepted due =
    (outcome : Outcome) → RunsOn trace (setup_of (accepted_tree accepted) accepted.image accepted.certificate policy) outcome → due outcome

-- why a pair isn't accepted
abbrev pub IsUnaccepted : CheckError → Stop → Type 0
IsUnaccepted (checking.Rejected rule function index program i c) stop = stop ≡ Refused (cause.Rejected rule function index)
IsUnaccepted (checking.Memory program i c) stop = stop ≡ Failed Memory
