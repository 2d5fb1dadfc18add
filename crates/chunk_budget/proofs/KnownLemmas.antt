-- What is kept of tables.
use Rattle.chunk_budget.proofs.Common.{ℕ, zero, suc, List, [], ◌∷◌, set, replicate, Option, None, AllByRecursion, FlatCode, IsRight}
use Rattle.chunk_budget.specs.declared.heights.Highest.{Highest}

pub none-right : (code : FlatCode) (heights : List ℕ) (n : ℕ) → AllByRecursion (IsRight code heights) (replicate n None)
none-right code heights zero = tt
none-right code heights (suc n) = (tt, none-right code heights n)

pub right-set : (code : FlatCode) (heights : List ℕ) (kept : List (Option Highest)) (place : ℕ) (one : Option Highest) → AllByRecursion (IsRight code heights) kept → IsRight code heights one →
    AllByRecursion (IsRight code heights) (set kept place one)
right-set code heights [] place one all here = tt
right-set code heights (x ∷ kept) zero one all here = (here, all.1)
right-set code heights (x ∷ kept) (suc place) one all here = (all.0, right-set code heights kept place one all.1 here)
