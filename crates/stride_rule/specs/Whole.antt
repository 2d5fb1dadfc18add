-- The invariant of a rule, with the summaries of its places.
use Rattle.std.specs.Prelude.{Option, List}
use Rattle.stride_rule.specs.declared.levels.Levels.{Levels}
use Rattle.stride_rule.specs.declared.rows.Row.{Row}
use Rattle.stride_rule.specs.Levels.{AreLevels}
use Rattle.stride_rule.specs.State.{StrideState, IsKept}

pub record IsWhole (levels : Levels) (places : List (Option Row)) (rule : StrideState) : Type 0 where
  pub kept : IsKept rule
  pub covered : AreLevels levels places
