-- A step that ends with a part.
use Rattle.std.specs.Prelude.{Option, None, Result, Ok, Err}
use Rattle.run_course.specs.declared.ends.Failure.{Failure}
use Rattle.run_course.specs.declared.ends.Halt.{Halt}

-- it continues unless the part failed
abbrev pub going_on : Result (Unit {0}) Failure → Result (Option Halt) Failure
going_on (Ok _) = Ok None
going_on (Err failure) = Err failure
