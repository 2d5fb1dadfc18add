use Rattle.rule_failures.proofs.FrameLemmas.{v4_first}
use Rattle.rule_failures.proofs.Common.{ap, ◌∙◌, program_code}
use Rattle.rule_failures.proofs.places.first_wrong_place.Goals as goal

pub placed_fact_of-fact-requires-clause-certificate : goal.placed_fact_of-fact-requires-clause-certificate
placed_fact_of-fact-requires-clause-certificate c = c.requires.readable.places

pub returns : goal.returns
returns c = v4_first (program_code c.args.flat.now) c.args.certificate.now c.args.function c.placed_fact_of-fact.result.now c.as_slice-sizes.result.now c.placed_fact_of-fact.ensures.value
    (c.as_slice-sizes.ensures ∙ ap (λ f. f.sizes) c.function_of.ensures.value) c.requires.function _ c.first_untaken.ensures
