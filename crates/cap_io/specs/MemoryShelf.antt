-- The shelves in memory: their contents, and the effect of each call on them.
use Rattle.std.specs.Prelude.{◌≡◌, ℕ, ◌==◌, List, take, find, option_map, IsSome, IsSomeAnd, Option, None, Result, Ok, Err, MatchResult}
use Rattle.cap_io.specs.declared.shelves.ShelfError.{ShelfError}
use Rattle.cap_io.specs.declared.shelves.ShelfError.TheVariants.{Failed, TooLong, Absent, Memory}
use Rattle.cap_io.specs.Entries.{Entries, put_file}
use Rattle.cap_io.specs.Memory.{counted_up}

-- a shelf in memory: its files, the number of loads and stores, which of them fail and how many bytes a store leaves
-- that fails there, and how many loads and stores failed
pub record ShelfState : Type 0 where
  pub entries : Entries
  pub calls : ℕ
  pub fails : List (ℕ × ℕ)
  pub load_faults : ℕ
  pub store_faults : ℕ

-- the number of bytes that a store leaves if it is this call, or none if the call doesn't fail
abbrev pub kept_of : List (ℕ × ℕ) → ℕ → Option ℕ
kept_of fails call = option_map (λ fail. fail.1) (find (λ fail. fail.0 == call) fails)

-- a load that does not fail: only the call is counted
abbrev pub LoadsOn : ShelfState → ShelfState → Type 0
LoadsOn old new = (kept_of old.fails (counted_up old.calls) ≡ None) × (new ≡ record old { calls = counted_up old.calls })

-- a load: it fails if the call is to fail, and changes no file
abbrev pub LoadsMemory : {V : Type 0} → ShelfState → ShelfState → Result V ShelfError → Type 0
LoadsMemory old new (Ok _) = LoadsOn old new
LoadsMemory old new (Err Failed) = IsSome (kept_of old.fails (counted_up old.calls))
    × (new ≡ record old { calls = counted_up old.calls; load_faults = counted_up old.load_faults })
LoadsMemory old new (Err TooLong) = LoadsOn old new
LoadsMemory old new (Err Absent) = LoadsOn old new
LoadsMemory old new (Err Memory) = LoadsOn old new

-- a store: it fails if the call is to fail, and then leaves the listed number of bytes; after Memory all files stay the
-- same
abbrev pub StoresMemory : ShelfState → ShelfState → List ℕ → List ℕ → Result (Unit {0}) ShelfError → Type 0
StoresMemory old new name bytes (Ok _) = (kept_of old.fails (counted_up old.calls) ≡ None)
    × (new ≡ record old { calls = counted_up old.calls; entries = put_file old.entries name bytes })
StoresMemory old new name bytes (Err Failed) = IsSomeAnd (kept_of old.fails (counted_up old.calls)) (λ kept.
    new ≡ record old { calls = counted_up old.calls; store_faults = counted_up old.store_faults; entries = put_file old.entries name (take kept bytes) })
StoresMemory old new name bytes (Err TooLong) = ⊥
StoresMemory old new name bytes (Err Absent) = ⊥
StoresMemory old new name bytes (Err Memory) = new ≡ record old { calls = counted_up old.calls }

-- a store on a shelf that never fails
abbrev pub StoresClean : Entries → Entries → List ℕ → List ℕ → Result (Unit {0}) ShelfError → Type 0
StoresClean old new name bytes r = MatchResult r (λ _. new ≡ put_file old name bytes) (λ _. new ≡ old)
