use Rattle.ready_tree.proofs.Common.{◌≡◌, fits_first}
use Rattle.ready_tree.proofs.amounts.fits_some.Given as goal

abbrev pub invariant-loop-resource : goal.invariant-loop-resource
invariant-loop-resource l = l.fits ≡ fits_first l.amounts l.unused l.resource
