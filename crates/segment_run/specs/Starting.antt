-- A new thread on a chunk for the bound of its function.
use Rattle.std.specs.Prelude.{◌≡◌, ℕ, ◌∷◌, List, take, replicate, Option, Some, None}
use Rattle.chunk_pool.specs.Pool.{Taken}
use Rattle.machine_world.specs.Areas.{Areas}
use Rattle.machine_world.specs.Local.{with_header}
use Rattle.machine_world.specs.Threads.{start_core}
use Rattle.segment_run.specs.Contexts.{core_of}
use Rattle.segment_run.specs.declared.contexts.Context.{Context}

-- the result of a start, if the machine world takes this chunk, or none, for the new thread
abbrev pub IsStarted : Option Taken → ℕ → ℕ → Option Context → Areas → Areas → Type 0
IsStarted None entry argument None before after = after ≡ before
IsStarted (Some taken) entry argument (Some context) before after =
    (core_of after.pool context ≡ start_core taken entry argument)
    × (after ≡ record before { pool = with_header taken.pool taken.chunk 0 0 })
IsStarted _ entry argument _ before after = ⊥

-- the arguments of a new thread's function: the first is the given one, and any other is 0
abbrev pub first_arguments : ℕ → ℕ → List ℕ
first_arguments params argument = take params (argument ∷ replicate 7 0)
