-- The next line of a trace, by an answer of its reader.
use Rattle.std.specs.Prelude.{◌≡◌, Option, None, Some, Result, Ok, Err}
use Rattle.event_trace.specs.declared.events.Event.{Event}
use Rattle.event_trace.specs.declared.refusals.TraceError.{TraceError}
use Rattle.event_trace.specs.declared.refusals.TraceError.TheVariants.{Line, Order, ReadFault}
use Rattle.schedule_reading.specs.declared.reading.Next.{Next}
use Rattle.schedule_reading.specs.declared.reading.Next.TheVariants as next
use Rattle.schedule_reading.specs.declared.rulings.Failure.{Failure}

abbrev pub IsLookOf : Result (Option Event) TraceError → Result Next Failure → Type 0
IsLookOf (Ok None) look = look ≡ Ok next.Over
IsLookOf (Ok (Some event)) look = look ≡ Ok (next.Event event)
IsLookOf (Err (Line number)) look = look ≡ Ok (next.Refused number)
IsLookOf (Err (Order number time earlier)) look = look ≡ Ok (next.Refused number)
IsLookOf (Err ReadFault) look = look ≡ Err Failure.Read
