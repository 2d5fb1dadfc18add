-- A log whose entries fit their types, and a tally that has room for more entries.
use Rattle.std.specs.Prelude.{ℕ, ◌+◌, ◌*◌, ◌^◌, ◌<◌, List, Option, unsigned_abs}
use Rattle.std.specs.Io.KnownBytes.{Appends}
use Rattle.run_course.specs.Output.{IsFitText}
use Rattle.capriccio_commands.specs.declared.summaries.Tally.{Tally}

-- what a sink took, if it exposes that, grew by the text of such entries
pub record TakesFit (old new : Option (List ℕ)) : Type 0 where
  pub text : List ℕ
  pub fits : IsFitText text
  pub writes : Appends old new text

-- this many further entries can be counted: a log has fewer than 2 ^ 63 bytes, and so fewer entries
pub record HasRoom (left : ℕ) (t : Tally) : Type 0 where
  pub choices : t.choices + left < 2 ^ 63
  pub outputs : t.outputs + left < 2 ^ 63
  pub sum : unsigned_abs t.sum + left * 2 ^ 31 < 2 ^ 94
  pub cost : t.cost + left * 2 ^ 64 < 2 ^ 127
