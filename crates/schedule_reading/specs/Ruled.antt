-- A ruling by a test.
use Rattle.std.specs.Prelude.{Bool, true, false}
use Rattle.schedule_reading.specs.declared.rulings.Ruling.{Ruling}
use Rattle.schedule_reading.specs.declared.rulings.Ruling.TheVariants as ruling

abbrev pub ruled : Bool → Ruling
ruled true = ruling.Allowed
ruled false = ruling.Refused
