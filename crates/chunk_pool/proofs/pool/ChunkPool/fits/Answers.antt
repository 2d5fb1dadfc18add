use Rattle.chunk_pool.proofs.Common.{◌≡◌, ◌∙◌, sym, ap, subst, Bool, false, ◌↔◌, is_some, FitsNone}
use Rattle.chunk_pool.proofs.NeedLaws.{class_for-fits}
use Rattle.chunk_pool.proofs.pool.ChunkPool.fits.Goals as goal

pub returns-clause-fits : goal.returns-clause-fits
returns-clause-fits c =
    subst (λ (b : Bool). (b ≡ false) ↔ FitsNone c.args.self.now c.args.need) (sym (c.is_some.ensures ∙ ap is_some c.class_for.ensures.value))
    (class_for-fits c.args.self.now c.args.need c.class_for.ensures.sound)
