use Rattle.std.proofs.Common.{ap, ◌∙◌}
use Rattle.buffered_writer.specs.Writing.{WriterState}
use Rattle.buffered_writer.proofs.Written.{writes_refused}
use Rattle.buffered_writer.proofs.writer.BufferedWriter.flush.Goals as goal

pub returns-in-Err-clause-bytes : goal.returns-in-Err-clause-bytes
returns-in-Err-clause-bytes g c =
    let old : WriterState = record { held = c.self.inside.held.items; refused = c.self.inside.refused }
    in rw (← c.self.view_is)
    (writes_refused old _ _ _ _ c.in-Err.refusal _ c.deref.ensures.value (ap (λ (w : WriterState). w.refused) c.self.view_is ∙ c.requires)
    c.in-Err.ensures.bytes c.in-Err.ensures.counts c.in-Err.ensures.never_falls)
