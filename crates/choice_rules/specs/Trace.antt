-- The next line of a trace.
use Rattle.std.specs.Prelude.{◌≡◌, ℕ, ◌+◌, List, [], Option, Some, None, ◌⊎◌}
use Rattle.event_trace.specs.declared.events.Event.{Event}
use Rattle.event_trace.specs.Lines.{rest_of}
use Rattle.event_trace.specs.Reader.{GivesEvent, RefusesLine, RefusesOrder}

-- the remaining bytes of a trace, the number of lines before them, and the time of the last of these, 0 before the
-- first
pub record Trace : Type 0 where
  pub bytes : List ℕ
  pub lines : ℕ
  pub last : ℕ

-- its next line is that of an event whose time doesn't decrease; or the trace has ended
abbrev pub IsNext : Trace → Option Event → Type 0
IsNext trace None = trace.bytes ≡ []
IsNext trace (Some event) = GivesEvent trace.bytes trace.lines trace.last event

-- the next line, with that number, isn't an event, is one too many, or its time decreases
abbrev pub IsRefused : Trace → ℕ → Type 0
IsRefused trace number =
    RefusesLine trace.bytes trace.lines number
    ⊎ ((time earlier : ℕ) × RefusesOrder trace.bytes trace.lines trace.last number time earlier)

-- the rest of the trace after the line of an event
abbrev pub behind : Trace → Event → Trace
behind trace event = record { bytes = rest_of trace.bytes; lines = trace.lines + 1; last = event.time }
