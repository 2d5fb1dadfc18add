-- The policy of a run in the two parts in which it is read: the sizes of the pool with fuel and backlog, and the caps
-- with the thresholds of pressure.
use Rattle.std.specs.Prelude.{ℕ, ◌-◌, List, Option}
use Rattle.command_words.specs.OptionTable.{name_of, default_of, least_of}
use Rattle.command_words.specs.Values.{AreCaps, IsNumber, IsNumberOf}
use Rattle.command_words.specs.declared.option_table.CommandOption.TheVariants as option
use Rattle.command_words.specs.declared.option_values.Marks.{Marks}
use Rattle.command_words.specs.declared.option_values.Room.{Room}

pub record IsRoom (given : List ℕ → Option (List ℕ)) (room : Room) : Type 0 where
  pub chunks : IsNumberOf given option.Chunks room.chunks
  pub extra : IsNumberOf given option.Extra room.extra
  pub fuel : IsNumberOf given option.Fuel room.fuel
  pub backlog : IsNumberOf given option.Backlog room.backlog

pub record AreMarks (given : List ℕ → Option (List ℕ)) (marks : Marks) : Type 0 where
  pub caps : AreCaps (given (name_of option.Caps)) marks.caps
  pub high : IsNumberOf given option.High marks.high
  pub low : IsNumber (given (name_of option.Low)) (default_of option.Low) (least_of option.Low)
      (marks.high - 1) marks.low
  pub knee : IsNumberOf given option.Knee marks.knee
