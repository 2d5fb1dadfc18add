-- The definition of the scheduler's choice.
use Rattle.std.specs.Prelude.{ℕ, ◌≡◌, ◌≢◌, ◌&&◌, ◌||◌, not, Bool, IsTrue, IsSome, ℤ, Option, Some, None, find, List}
use Rattle.cap_word.specs.declared.threads.ThreadId.{ThreadId}
use Rattle.scheduler.specs.declared.choices.Choice.{Choice}
use Rattle.scheduler.specs.Scores.{comes_before}

-- whether a thread is eligible: it is ready and, if it is at `accept`, the gate is open or no thread that isn't at
-- `accept` is ready
abbrev pub is_eligible : (ThreadId → Bool) → (ThreadId → Bool) → Bool → Bool → ThreadId → Bool
is_eligible is_ready at_accept any_elsewhere gate_open thread =
    is_ready thread && (not (at_accept thread) || (gate_open || not any_elsewhere))

-- a choice takes the first eligible thread of its node's queue, and its node comes before every other node with an
-- eligible thread
pub record IsLeast (queue : ℕ → List ThreadId) (eligible : ThreadId → Bool) (score : ℕ → ℤ) (last : ℕ → ℕ) (choice : Choice) : Type 0 where
  pub first : find eligible (queue choice.node) ≡ Some choice.thread
  pub least : (other : ℕ) → other ≢ choice.node → IsSome (find eligible (queue other)) → IsTrue (comes_before score last choice.node other)

-- the lawful choice, and none exactly if no queued thread is eligible
abbrev pub IsLawfulChoice : (ℕ → List ThreadId) → (ThreadId → Bool) → (ℕ → ℤ) → (ℕ → ℕ) → Option Choice → Type 0
IsLawfulChoice queue eligible score last None = (node : ℕ) → find eligible (queue node) ≡ None
IsLawfulChoice queue eligible score last (Some choice) = IsLeast queue eligible score last choice
