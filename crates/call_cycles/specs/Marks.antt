-- Functions that are marked once, and kept in a list until they are visited.
use Rattle.std.specs.Prelude.{ℕ, ◌≡◌, ◌⊎◌, ◌+◌, Bool, true, List, length}
use Rattle.call_graph.specs.Lists.{has}
use Rattle.cycle_break.specs.Trail.{is_marked, unmarked}
use Rattle.flat_code.specs.Codes.{FlatCode, members_of}
use Rattle.call_cycles.specs.Cycles.{Calls, IsOnCycle}

-- each function with P is marked, and those that weren't are added to a list
pub record Marks (P : ℕ → Type 0) (marks : List Bool) (left : List ℕ) (marks' : List Bool) (left' : List ℕ) : Type 0 where
  pub each : length marks' ≡ length marks
  pub done : (g : ℕ) → P g → is_marked marks' g ≡ true
  pub kept : (g : ℕ) → is_marked marks g ≡ true → is_marked marks' g ≡ true
  pub from : (g : ℕ) → is_marked marks' g ≡ true → (is_marked marks g ≡ true) ⊎ P g
  pub later : (g : ℕ) → is_marked marks' g ≡ true → (is_marked marks g ≡ true) ⊎ (has g left' ≡ true)
  pub still : (g : ℕ) → has g left ≡ true → has g left' ≡ true
  pub added : (g : ℕ) → has g left' ≡ true → (has g left ≡ true) ⊎ (is_marked marks' g ≡ true)
  pub work : unmarked marks' + length left' ≡ unmarked marks + length left

-- all members of each seen table are marked
pub record AreSeen (code : FlatCode) (marks seen : List Bool) : Type 0 where
  pub each : length seen ≡ length code.tables
  pub members : (t g : ℕ) → is_marked seen t ≡ true → has g (members_of code t) ≡ true → is_marked marks g ≡ true

-- the callees of a marked function are marked
abbrev pub IsClosed : FlatCode → List Bool → Type 0
IsClosed code marks = (g h : ℕ) → is_marked marks g ≡ true → Calls code g h → is_marked marks h ≡ true

-- no marked function is on a cycle
abbrev pub AreOffCycles : FlatCode → List Bool → Type 0
AreOffCycles code marks = (f : ℕ) → is_marked marks f ≡ true → IsOnCycle code f → ⊥
