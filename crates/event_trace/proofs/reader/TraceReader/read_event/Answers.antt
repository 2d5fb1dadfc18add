use Rattle.std.proofs.Common.{refl}
use Rattle.event_trace.specs.Reader.{ReaderState}
use Rattle.event_trace.proofs.Answered.{told_long, told_line}
use Rattle.event_trace.proofs.reader.TraceReader.read_event.Goals as goal

pub returns-in-TooLong-clause-told : goal.returns-in-TooLong-clause-told
returns-in-TooLong-clause-told g c =
    let taken = rw c.in-TooLong.is at c.in-Ok.ensures.told
    in let old : ReaderState = record { held = c.self.inside.block; lines = c.self.inside.lines; last = c.self.inside.last; refused = c.self.inside.refused }
    in let new : ReaderState = record { held = c.read_line.new.block; lines = c.self.inside.lines; last = c.self.inside.last; refused = c.self.inside.refused }
    in rw (← c.self.view_is) (told_long _ old new _ _ c.read_line.new.line.items _ taken refl)

pub returns-in_default-parse_line-clause-told : goal.returns-in_default-parse_line-clause-told
returns-in_default-parse_line-clause-told g c =
    let taken = rw c.in-Line.is at c.in-Ok.ensures.told
    in let old : ReaderState = record { held = c.self.inside.block; lines = c.self.inside.lines; last = c.self.inside.last; refused = c.self.inside.refused }
    in let new : ReaderState = record { held = c.read_line.new.block; lines = c.self.inside.lines; last = c.self.inside.last; refused = c.self.inside.refused }
    in rw (← c.self.view_is) (told_line _ old new _ _ c.read_line.new.line.items _ taken refl
    (λ counted event spelled. c.in_default-parse_line.ensures event (rw c.deref.ensures.value spelled)))
