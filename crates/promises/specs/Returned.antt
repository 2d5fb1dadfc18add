-- When the machine world of a run is returned.
use Rattle.std.specs.Prelude.{ℕ, ◌≡◌, ◌≤◌, ◌⊎◌, IsSome, List, Option, Some, codes, slice_get}
use Rattle.thread_core.specs.Worlds.{Held}

-- A command that runs a program, `serve`, `run` or `demo`, returns a world if it ends with the status of a run: every
-- thread has ended (0), or the run idles, traps, finds no chunk, has spent its fuel or has too many threads (10 to 14).
-- A run also ends with 4, at a refused line of the trace. A refused image or certificate has that status too, so of 4
-- nothing is said here.
abbrev pub IsReturned : (words : List (List ℕ)) → Option Held → (status : ℕ) → Type 0
IsReturned words last status =
    (slice_get words 0 ≡ Some (codes "serve")) ⊎ ((slice_get words 0 ≡ Some (codes "run")) ⊎ (slice_get words 0 ≡ Some (codes "demo"))) →
    (status ≡ 0) ⊎ ((10 ≤ status) × (status ≤ 14)) → IsSome last
