use Rattle.one_plan.proofs.Limits.{image-fits, certificate-fits}
use Rattle.one_plan.proofs.laws.pairs_fit_law.Goals as goal

pub returns-clause-images : goal.returns-clause-images
returns-clause-images c = image-fits

pub returns-clause-certificates : goal.returns-clause-certificates
returns-clause-certificates c = certificate-fits
