use Rattle.stack_certificate.proofs.Common.{◌≡◌, length, sym, ap, subst, ◌∙◌, refl, slice_get, slice_index_or, function_at, program_code, IsOperation, context_of, HavePlaces}
use Rattle.stack_certificate.proofs.PlaceLemmas.{operation_formed, operation_places}
use Rattle.stack_certificate.proofs.lookups.operation_of.Goals as goal

pub returns-clause-value : goal.returns-clause-value
returns-clause-value c = c.operation_in.ensures.there ∙ ap (λ f. slice_get f.ops c.args.op) c.function_of-body.ensures.value

pub returns-clause-formed : goal.returns-clause-formed
returns-clause-formed c =
    let here : c.operation_in.result.now ≡ slice_index_or (function_at (program_code c.args.flat.now) c.args.function).ops c.args.op c.operation_in.result.now =
    c.operation_in.ensures.value ∙ ap (λ f. slice_index_or f.ops c.args.op c.operation_in.result.now) c.function_of-body.ensures.value in
    subst (λ op. IsOperation (context_of (program_code c.args.flat.now) (function_at (program_code c.args.flat.now) c.args.function)) op) (sym here)
    (operation_formed (program_code c.args.flat.now) c.args.function c.args.op _ c.args.flat.now.well_formed c.requires.function c.requires.op)

pub returns-clause-places : goal.returns-clause-places
returns-clause-places c =
    let here : c.operation_in.result.now ≡ slice_index_or (function_at (program_code c.args.flat.now) c.args.function).ops c.args.op c.operation_in.result.now =
    c.operation_in.ensures.value ∙ ap (λ f. slice_index_or f.ops c.args.op c.operation_in.result.now) c.function_of-body.ensures.value in
    subst (λ op. HavePlaces (length (function_at (program_code c.args.flat.now) c.args.function).sizes) op) (sym here)
    (operation_places (program_code c.args.flat.now) c.args.function c.args.op _ _ c.args.flat.now.well_formed c.requires.function c.requires.op refl)
