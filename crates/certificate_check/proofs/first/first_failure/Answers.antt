use Rattle.certificate_check.proofs.Common.{subst, program_code, V1, IsFirstSpot}
use Rattle.certificate_check.proofs.BelowLemmas.{below_start, first_failure_from}
use Rattle.certificate_check.proofs.first.first_failure.Goals as goal

pub first_behind_fit-requires-clause-below : goal.first_behind_fit-requires-clause-below
first_behind_fit-requires-clause-below c = below_start (program_code c.args.flat.now) c.args.image.now c.args.certificate.now (subst (λ r. IsFirstSpot (V1 (program_code c.args.flat.now) c.args.image.now c.args.certificate.now) r) c.in_default.is c.in_ok-spot.ensures)

pub returns-in-Some : goal.returns-in-Some
returns-in-Some c = first_failure_from (program_code c.args.flat.now) c.args.image.now c.args.certificate.now c.in-Some.spot (subst (λ r. IsFirstSpot (V1 (program_code c.args.flat.now) c.args.image.now c.args.certificate.now) r) c.in-Some.is c.in_ok-spot.ensures)
