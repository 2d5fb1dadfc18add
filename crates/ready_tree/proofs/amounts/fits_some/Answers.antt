use Rattle.std.proofs.Common.{◌∙◌}
use Rattle.ready_tree.proofs.NeedLaws.{fits_none, fits_then, fits_else}
use Rattle.ready_tree.proofs.amounts.fits_some.Goals as goal
use Rattle.ready_tree.proofs.amounts.fits_some.Goals.{then-fits, else-fits}

pub loop-resource-init : goal.loop-resource-init
loop-resource-init c = fits_none c.args.amounts.now c.args.unused.now

pub loop-resource-preserved : goal.loop-resource-preserved
loop-resource-preserved c = elim c.if-fits.branch [
  | then-fits w ↦ w.fits-is ∙ w.if-fits.true ∙ fits_then c.args.amounts.now c.args.unused.now c.loop-resource.resource c.loop-resource.fits c.loop-resource.invariant w.if-fits.true
  | else-fits w ↦ w.fits-is ∙ fits_else c.args.amounts.now c.args.unused.now c.loop-resource.resource c.loop-resource.fits c.loop-resource.invariant w.if-fits.false
]
