-- The numbers of live threads increase, and are below the next number.
use Rattle.std.specs.Prelude.{ℕ, ◌+◌, ◌≤◌, List, [], ◌∷◌}
use Rattle.machine_world.specs.Threads.{Thread, World}

-- the numbers increase from the first of these two and stay below the second
abbrev pub RiseBetween : ℕ → ℕ → List Thread → Type 0
RiseBetween from next [] = from ≤ next
RiseBetween from next (thread ∷ threads) = (from ≤ thread.number) × RiseBetween (thread.number + 1) next threads

abbrev pub IsNumbered : World → Type 0
IsNumbered w = RiseBetween 0 w.next w.threads
