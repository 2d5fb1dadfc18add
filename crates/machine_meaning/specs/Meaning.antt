-- When a thread of flat code means the same as a thread of the source: both reach the same next modelled call, trap or
-- end, with the same values and globals, or neither reaches one; and whatever a world answers, their runs show the
-- same.
use Rattle.std.specs.Prelude.{◌≡◌, ◌≢◌, ℕ, ◌≤◌, List}
use Rattle.cap_word.specs.Calls.{Question, Answer, Finish}
use Rattle.cap_word.specs.Runs.{Goes, Asks, Stops, moves, run, seen}
use Rattle.c_tree.specs.Trees.{ProgramTree}
use Rattle.c_mean.specs.Frames.{Running, Waiting}
use Rattle.c_mean.specs.Steps.{source_machine}
use Rattle.flat_code.specs.Frames.{FlatThread, FlatWaiting, Finished, Lost}
use Rattle.flat_code.specs.Step.{flat_machine, finishing}
use Rattle.c_lower.specs.ProgramCode.{lowered}
use Rattle.machine_meaning.specs.StandsFor.{StandsFor}

pub record MeansTheSame (program : ProgramTree) (thread : Running) (flat : FlatThread) : Type 0 where
  -- ---- the source reaches what flat code reaches
  pub asks : (n : ℕ) (question : Question) (after : FlatWaiting) → moves (flat_machine (lowered program)) n flat ≡ Asks question after
      → (m : ℕ) × (waiting : Waiting) × (moves (source_machine program) m thread ≡ Asks question waiting) × StandsFor program waiting after
  pub stops : (n : ℕ) (finish : Finish) → moves (flat_machine (lowered program)) n flat ≡ Stops (Finished finish) → (m : ℕ) × (moves (source_machine program) m thread ≡ Stops finish)
  pub never_lost : (n : ℕ) → moves (flat_machine (lowered program)) n flat ≢ Stops Lost
  -- ---- and conversely; a source thread that runs silently for n steps does so in flat code for at least n
  pub is_asked : (n : ℕ) (question : Question) (waiting : Waiting) → moves (source_machine program) n thread ≡ Asks question waiting
      → (m : ℕ) × (after : FlatWaiting) × (moves (flat_machine (lowered program)) m flat ≡ Asks question after) × StandsFor program waiting after
  pub is_stopped : (n : ℕ) (finish : Finish) → moves (source_machine program) n thread ≡ Stops finish → (m : ℕ) × (moves (flat_machine (lowered program)) m flat ≡ Stops (Finished finish))
  pub goes_on : (n : ℕ) (next : Running) → moves (source_machine program) n thread ≡ Goes next → (m : ℕ) × (after : FlatThread) × (n ≤ m) × (moves (flat_machine (lowered program)) m flat ≡ Goes after)
  -- ---- runs against a world, after these earlier questions
  pub source_runs : (world : List Question → Answer) (n : ℕ) (asked : List Question)
      → (m : ℕ) × (seen (run (flat_machine (lowered program)) world m asked flat) ≡ seen (run (finishing (source_machine program)) world n asked thread))
  pub flat_runs : (world : List Question → Answer) (m : ℕ) (asked : List Question)
      → (n : ℕ) × (seen (run (finishing (source_machine program)) world n asked thread) ≡ seen (run (flat_machine (lowered program)) world m asked flat))
