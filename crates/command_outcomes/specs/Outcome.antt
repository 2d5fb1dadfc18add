-- The outcome of a command, as its words and the files determine it.
use Rattle.std.specs.Prelude.{ℕ, Bool, false, List, [], Option, None}
use Rattle.lawful_log.specs.Setup.{Setup}
use Rattle.machine_world.specs.Threads.{World}

-- a run that reached its stop: its program, image, certificate and policy, and the machine world at the stop
pub record Ran : Type 0 where
  pub setup : Setup
  pub end : World

-- the status, the bytes for the output, the line for standard error, the files to store in order, by name and bytes,
-- the run, if there is one, and whether it reads the trace that was passed
pub record Outcome : Type 0 where
  pub status : ℕ
  pub out : List ℕ
  pub line : List ℕ
  pub stores : List (List ℕ × List ℕ)
  pub last : Option Ran
  pub reads_trace : Bool

-- a refusal: only its line
abbrev pub refused : ℕ → List ℕ → Outcome
refused status line = record { status = status; out = []; line = line; stores = []; last = None; reads_trace = false }

-- only a text for the output
abbrev pub printed : ℕ → List ℕ → Outcome
printed status text = record { status = status; out = text; line = []; stores = []; last = None; reads_trace = false }

-- nothing more is due
abbrev pub NoMore : {A : Type 0} → A → Outcome → Type 0
NoMore _ _ = ⊥
