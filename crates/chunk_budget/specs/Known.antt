-- The cache of the most recent tables.
use Rattle.std.specs.Prelude.{ℕ, ◌≡◌, ◌<◌, ⊤, Option, Some, None, List}
use Rattle.std.specs.List.{AllByRecursion}
use Rattle.flat_code.specs.Codes.{FlatCode, members_of}
use Rattle.chunk_budget.specs.declared.heights.Highest.{Highest}
use Rattle.chunk_budget.specs.declared.heights.Known.{Known}
use Rattle.chunk_budget.specs.Tests.{highest}

-- what is cached for a table, if anything, is the greatest height of its members
abbrev pub IsRight : FlatCode → List ℕ → Option Highest → Type 0
IsRight code heights None = ⊤
IsRight code heights (Some kept) = kept.height ≡ highest heights (members_of code kept.table)

-- everything cached is right, and the oldest entry has an index
pub record IsKnown (code : FlatCode) (heights : List ℕ) (known : Known) : Type 0 where
  pub kept : AllByRecursion (IsRight code heights) known.kept
  pub oldest : known.oldest < 64
