use Rattle.rule_failures.proofs.Common.{sym, subst, program_code, V1, IsFirstSpot}
use Rattle.rule_failures.proofs.FitLemmas.{count_spot, fit_spot, same_functions}
use Rattle.rule_failures.proofs.fit.first_unfit.Goals as goal

pub returns-in-Some : goal.returns-in-Some
returns-in-Some c = count_spot (program_code c.args.flat.now) c.args.image.now c.args.certificate.now c.in-Some.index c.in-Some.ensures

pub first_without_places-requires-clause-count : goal.first_without_places-requires-clause-count
first_without_places-requires-clause-count c = same_functions (program_code c.args.flat.now) c.args.image.now c.args.certificate.now c.in_default.ensures

pub returns : goal.returns
returns c =
    subst (λ r. IsFirstSpot (V1 (program_code c.args.flat.now) c.args.image.now c.args.certificate.now) r) (sym c.spot_of_rest.ensures)
    (fit_spot (program_code c.args.flat.now) c.args.image.now c.args.certificate.now c.first_without_places.result c.in_ok-named.named c.in_default.ensures c.first_without_places.ensures c.in_ok-named.ensures)
