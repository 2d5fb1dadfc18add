use Rattle.std.proofs.Common.{length, ap, ◌∙◌}
use Rattle.stack_certificate.proofs.PlaceLemmas.{same_count, same_places}
use Rattle.stack_certificate.proofs.lookups.placed_fact_of.Goals as goal

pub fact_of-requires : goal.fact_of-requires
fact_of-requires c = let e = same_count _ _ c.requires.certificate in rw e c.requires.function

pub returns-clause-places : goal.returns-clause-places
returns-clause-places c = ap (λ fact. length fact.places) c.fact_of.ensures ∙ same_places _ _ _ _ _ c.requires.certificate c.requires.function
