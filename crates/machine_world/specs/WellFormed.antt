-- The invariant of every world of a run, whatever its code does: registers and memory are words, the invariant of the
-- pool holds, the areas have the sizes that the program declares, and the counts stay within the fuel.
use Rattle.std.specs.Prelude.{◌≡◌, ℕ, ◌+◌, ◌^◌, ◌<◌, ◌≤◌, List, length, map, sum, All, Option, Some, None}
use Rattle.std.specs.List.{AllByRecursion, flat_map}
use Rattle.c_mean.specs.ModelledCalls.{Exchange, Arrival, Message}
use Rattle.chunk_pool.specs.Pool.{IsPool, first_bytes}
use Rattle.stack_certificate.specs.Certificates.{fact_at}
use Rattle.machine_world.specs.Areas.{Areas}
use Rattle.machine_world.specs.Counted.{IsCounted}
use Rattle.machine_world.specs.Globals.{global_widths}
use Rattle.machine_world.specs.Local.{Core}
use Rattle.machine_world.specs.Places.{Checked}
use Rattle.machine_world.specs.Runs.{Action, Deliver, Advance, Pick, Step}
use Rattle.machine_world.specs.Threads.{World, Setting, Move, Goes, Puts, Spawns, Blocks, Ends, Stops, Wrong}

-- each value is a word
abbrev pub AreWords : List ℕ → Type 0
AreWords values = All (λ value. value < 2 ^ 32) values

-- the words of the tables: the entries of the members, table by table
abbrev pub member_entries : Checked → List ℕ
member_entries c = flat_map (λ members. map (λ g. (fact_at c.certificate g).entry) members) c.flat.tables

pub record AreWellFormed (c : Checked) (areas : Areas) : Type 0 where
  pub pool : IsPool areas.pool
  pub chunk : first_bytes areas.pool ≡ c.certificate.chunk
  pub globals : length areas.globals ≡ sum (global_widths c.flat)
  pub global_words : AreWords areas.globals
  pub tables : areas.tables ≡ member_entries c

-- pc and 32 registers, all of them words
pub record IsCore (core : Core) : Type 0 where
  pub pc : core.pc < 2 ^ 32
  pub count : length core.x ≡ 32
  pub registers : AreWords core.x

-- the values in the queues are words, and there are 64 channels and the uses of the resources 0 to 7
pub record IsExchange (x : Exchange) : Type 0 where
  pub arrivals : AreWords x.arrivals
  pub channels : All AreWords x.channels
  pub channel_count : length x.channels ≡ 64
  pub use_count : length x.uses ≡ 8

-- the maximum number of instructions of a run
abbrev pub most_fuel : ℕ
most_fuel = 1000000000

pub record IsWellFormed (c : Checked) (s : Setting) (w : World) : Type 0 where
  pub areas : AreWellFormed c w.areas
  pub cores : AllByRecursion (λ thread. IsCore thread.core) w.threads
  pub counted : IsCounted w
  pub exchange : IsExchange w.exchange
  -- each start of a thread, except the first, retires an instruction; so every number is a word
  pub fuel : s.fuel ≤ most_fuel
  pub cost : w.cost ≤ s.fuel
  pub next : w.next ≤ w.cost + 1

-- the world after a move, if there is one, is well formed
abbrev pub KeepsWellFormed : Checked → Setting → Move → Type 0
KeepsWellFormed c s (Goes after) = IsWellFormed c s after
KeepsWellFormed c s (Puts value after) = IsWellFormed c s after
KeepsWellFormed c s (Spawns number after) = IsWellFormed c s after
KeepsWellFormed c s (Blocks after) = IsWellFormed c s after
KeepsWellFormed c s (Ends after) = IsWellFormed c s after
KeepsWellFormed c s (Stops stop) = Unit {0}
KeepsWellFormed c s Wrong = Unit {0}

abbrev pub IsWellFormedIf : Checked → Setting → Option World → Type 0
IsWellFormedIf c s None = Unit {0}
IsWellFormedIf c s (Some w) = IsWellFormed c s w

-- the delivered value is a word
abbrev pub DeliversWords : Action → Type 0
DeliversWords (Deliver (Arrival value)) = value < 2 ^ 32
DeliversWords (Deliver (Message channel value)) = value < 2 ^ 32
DeliversWords (Advance to) = Unit {0}
DeliversWords (Pick number) = Unit {0}
DeliversWords Step = Unit {0}
