use Rattle.accepted_pairs.proofs.Common.{◌≡◌, sym, ap, subst, ◌∙◌, slice_get, slice_index_or, function_at, program_code, IsOperation, context_of, operation_formed}
use Rattle.accepted_pairs.proofs.lookups.operation_of.Goals as goal

pub returns-clause-there : goal.returns-clause-there
returns-clause-there c = sym (c.operation_in.ensures.there ∙ ap (λ f. slice_get f.ops c.args.op) c.function_of-body.ensures.value)

pub returns-clause-formed : goal.returns-clause-formed
returns-clause-formed c =
    let here : c.operation_in.result.now ≡ slice_index_or (function_at (program_code c.args.flat.now) c.args.function).ops c.args.op c.operation_in.result.now =
    c.operation_in.ensures.value ∙ ap (λ f. slice_index_or f.ops c.args.op c.operation_in.result.now) c.function_of-body.ensures.value in
    subst (λ op. IsOperation (context_of (program_code c.args.flat.now) (function_at (program_code c.args.flat.now) c.args.function)) op) (sym here)
    (operation_formed (program_code c.args.flat.now) c.args.function c.args.op _ c.args.flat.now.well_formed c.requires.function c.requires.op)
