use Rattle.schedule_log.proofs.Common.{◌≡◌, ℕ, ap, subst, None, WriterState}
use Rattle.schedule_log.specs.Puts.{CountsPut}
use Rattle.schedule_log.proofs.Written.{put_finished}
use Rattle.schedule_log.proofs.writing.put_alone.Goals as goal

pub returns-in-Ok-clause-bytes : goal.returns-in-Ok-clause-bytes
returns-in-Ok-clause-bytes g c =
    put_finished _ _ _ _ _ c.finish.result (rw c.requires at c.in-Ok.ensures.grows) (rw c.requires at c.in-Ok.ensures.prefix) c.finish.ensures.bytes

pub returns-in-Ok-clause-counts : goal.returns-in-Ok-clause-counts
returns-in-Ok-clause-counts g c =
    let none : c.args.writer.refused ≡ None = ap (λ (w : WriterState). w.refused) c.requires
    in subst (λ (n : ℕ). CountsPut c.finish.result n (g.K.Sink.faults c.finish.new.out)) (c.in-Ok.ensures.counts none) (c.finish.ensures.counts c.in-Ok.ensures.kept)

pub returns-in-Err-clause-bytes : goal.returns-in-Err-clause-bytes
returns-in-Err-clause-bytes g c = rw c.requires at c.in-Err.ensures.prefix

pub returns-in-Err-clause-counts : goal.returns-in-Err-clause-counts
returns-in-Err-clause-counts g c = c.in-Err.ensures.counts (ap (λ (w : WriterState). w.refused) c.requires)
