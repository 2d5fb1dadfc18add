use Rattle.stack_certificate.proofs.Common.{ap, ◌∙◌, slice_index_or}
use Rattle.stack_certificate.proofs.PlaceLemmas.{any_default}
use Rattle.stack_certificate.proofs.lookups.fact_of.Goals as goal

pub returns : goal.returns
returns c =
    c.index-as_slice-function.is ∙ (ap (λ facts. slice_index_or facts c.args.function c.index-as_slice-function.result) c.as_slice.ensures ∙ any_default _ _ _ _ c.requires)
