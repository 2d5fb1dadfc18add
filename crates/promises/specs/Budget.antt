-- The promise on budgets of chunks.
use Rattle.std.specs.Prelude.{ℕ, ◌≡◌, ◌≢◌, ◌*◌, ◌≤◌, Option, Some}
use Rattle.accepted_pairs.specs.Accepting.{accepted_tree}
use Rattle.c_lower.specs.ProgramCode.{lowered}
use Rattle.chunk_budget.specs.Budgets.{IsBudget}
use Rattle.chunk_budget.specs.declared.budgets.Budget.{Budget}
use Rattle.log_laws.specs.Lives.{live}
use Rattle.log_laws.specs.Rooms.{roomy}
use Rattle.thread_core.specs.Worlds.{Held}

-- A budget of the pair that was run is accepted; at most n threads are live in the returned world, counting one that is
-- about to start; and the pool has chunks for the budgets of n threads, each large enough for the longest path between
-- checkpoints. Then no stop for want of a chunk (12) is reported.
abbrev pub KeepsBudget : Option Held → (status : ℕ) → Type 0
KeepsBudget last status =
    (world : Held) (budget : Budget) (threads : ℕ) → last ≡ Some world →
    IsBudget (lowered (accepted_tree world.accepted)) world.accepted.certificate budget →
    live world.setting world.machine ≤ threads → threads * budget.per_thread ≤ roomy world.machine.areas.pool world.accepted.certificate.max_path →
    status ≢ 12
