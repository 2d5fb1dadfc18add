-- Summaries of groups of places, by their numbers.
use Rattle.std.specs.Prelude.{ℕ, ◌≢◌, ◌<◌, ◌≤◌, ◌/◌, Option, List, length}
use Rattle.stride_rule.specs.declared.rows.Row.{Row}
use Rattle.stride_rule.specs.declared.levels.Levels.{Levels}
use Rattle.stride_rule.specs.declared.summaries.Summary.{Summary}
use Rattle.stride_rule.specs.Rows.{row_at}
use Rattle.stride_rule.specs.Summaries.{Covers, summary_at}

-- the summary with this number covers that place
pub record IsCovered (level : List Summary) (index : ℕ) (place : Option Row) : Type 0 where
  pub there : index < length level
  pub covers : Covers (summary_at level index) place

-- each place has its summary at each level
pub record AreLevels (levels : Levels) (places : List (Option Row)) : Type 0 where
  pub small : (place : ℕ) → place < length places → IsCovered levels.small.items (place / 16) (row_at places place)
  pub middle : (place : ℕ) → place < length places → IsCovered levels.middle.items (place / 256) (row_at places place)
  pub large : (place : ℕ) → place < length places → IsCovered levels.large.items (place / 4096) (row_at places place)

-- a place has a summary at each level
pub record IsThere (levels : Levels) (place : ℕ) : Type 0 where
  pub small : place / 16 < length levels.small.items
  pub middle : place / 256 < length levels.middle.items
  pub large : place / 4096 < length levels.large.items

-- each place has a summary at each level, which covers it, except for one place
pub record AreLevelsBut (levels : Levels) (places : List (Option Row)) (but : ℕ) : Type 0 where
  pub there : (place : ℕ) → place < length places → IsThere levels place
  pub small : (place : ℕ) → place < length places → place ≢ but → Covers (summary_at levels.small.items (place / 16)) (row_at places place)
  pub middle : (place : ℕ) → place < length places → place ≢ but → Covers (summary_at levels.middle.items (place / 256)) (row_at places place)
  pub large : (place : ℕ) → place < length places → place ≢ but → Covers (summary_at levels.large.items (place / 4096)) (row_at places place)

-- one more place has a summary, or one is appended for it
pub record HasRoom (levels : Levels) (place : ℕ) : Type 0 where
  pub small : place / 16 ≤ length levels.small.items
  pub middle : place / 256 ≤ length levels.middle.items
  pub large : place / 4096 ≤ length levels.large.items
