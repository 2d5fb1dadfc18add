use Rattle.stack_certificate.proofs.Common.{◌≡◌, sym, ap, subst, ◌∙◌, slice_index_or, function_at, program_code, IsFunction}
use Rattle.stack_certificate.proofs.PlaceLemmas.{function_formed, any_default}
use Rattle.stack_certificate.proofs.lookups.function_of.Goals as goal

pub returns : goal.returns
returns c =
    let value : c.index-functions-function.result ≡ function_at (program_code c.args.flat.now) c.args.function =
    c.index-functions-function.is ∙ (ap (λ fs. slice_index_or fs c.args.function c.index-functions-function.result) c.functions.ensures ∙ any_default _ _ _ _ c.requires) in
    let formed : IsFunction (program_code c.args.flat.now) c.index-functions-function.result =
    subst (λ f. IsFunction (program_code c.args.flat.now) f) (sym value) (function_formed (program_code c.args.flat.now) c.args.function c.args.flat.now.well_formed c.requires) in
    record { value = value; params = formed.params; words = formed.words; count = formed.count }
