-- The meaning of the answers of `load` and `store` if the shelf exposes its files, and their effect on the counts of
-- faults.
use Rattle.std.specs.Prelude.{◌≡◌, ℕ, ◌<◌, ◌≤◌, ◌⊎◌, List, length, take, IsSomeAnd, Result, Ok, Err, Option, None, Some}
use Rattle.std.specs.Global.{Vec}
use Rattle.cap_io.specs.declared.shelves.ShelfError.{ShelfError}
use Rattle.cap_io.specs.declared.shelves.ShelfError.TheVariants.{Failed, TooLong, Absent, Memory}
use Rattle.cap_io.specs.Faults.{Rose}
use Rattle.cap_io.specs.Files.{Files, KeepsOthers}

-- a load of at most max bytes answers by the file's contents; Failed and Memory say nothing about them
abbrev pub LoadsFile : Option (List ℕ) → ℕ → Result (Vec ℕ) ShelfError → Type 0
LoadsFile file max (Ok bytes) = file ≡ Some bytes.items
LoadsFile file max (Err Failed) = Unit {0}
LoadsFile file max (Err TooLong) = IsSomeAnd file (λ bytes. max < length bytes)
LoadsFile file max (Err Absent) = file ≡ None
LoadsFile file max (Err Memory) = Unit {0}

-- a load answers by the file of that name, if files are exposed
abbrev pub Loads : Option Files → List ℕ → ℕ → Result (Vec ℕ) ShelfError → Type 0
Loads None name max r = Unit {0}
Loads (Some files) name max r = LoadsFile (files name) max r

-- the count of failed loads rises exactly if the load returns Failed
abbrev pub CountsLoads : {V : Type 0} → Result V ShelfError → ℕ → ℕ → Type 0
CountsLoads (Ok _) old new = new ≡ old
CountsLoads (Err Failed) old new = Rose old new
CountsLoads (Err TooLong) old new = new ≡ old
CountsLoads (Err Absent) old new = new ≡ old
CountsLoads (Err Memory) old new = new ≡ old

-- a load returns anything but Failed
abbrev pub NeverFails : {V : Type 0} → Result V ShelfError → Type 0
NeverFails (Ok _) = Unit {0}
NeverFails (Err Failed) = ⊥
NeverFails (Err TooLong) = Unit {0}
NeverFails (Err Absent) = Unit {0}
NeverFails (Err Memory) = Unit {0}

-- a file whose contents are the first n of some bytes
abbrev pub HoldsPrefix : Option (List ℕ) → List ℕ → Type 0
HoldsPrefix file bytes = (n : ℕ) × (n ≤ length bytes) × (file ≡ Some (take n bytes))

-- a store leaves the bytes in the file; after Failed a prefix of them, after Memory a prefix or the old contents
abbrev pub StoresFile : Option (List ℕ) → Option (List ℕ) → List ℕ → Result (Unit {0}) ShelfError → Type 0
StoresFile old new bytes (Ok _) = new ≡ Some bytes
StoresFile old new bytes (Err Failed) = HoldsPrefix new bytes
StoresFile old new bytes (Err TooLong) = ⊥
StoresFile old new bytes (Err Absent) = ⊥
StoresFile old new bytes (Err Memory) = HoldsPrefix new bytes ⊎ (new ≡ old)

-- a store changes only the file of that name, if files are exposed
abbrev pub Stores : Option Files → Option Files → List ℕ → List ℕ → Result (Unit {0}) ShelfError → Type 0
Stores None new name bytes r = Unit {0}
Stores (Some old) None name bytes r = ⊥
Stores (Some old) (Some new) name bytes r = StoresFile (old name) (new name) bytes r × KeepsOthers old new name

-- the count of failed stores rises exactly if the store returns Failed; TooLong and Absent never occur
abbrev pub CountsStores : Result (Unit {0}) ShelfError → ℕ → ℕ → Type 0
CountsStores (Ok _) old new = new ≡ old
CountsStores (Err Failed) old new = Rose old new
CountsStores (Err TooLong) old new = ⊥
CountsStores (Err Absent) old new = ⊥
CountsStores (Err Memory) old new = new ≡ old
