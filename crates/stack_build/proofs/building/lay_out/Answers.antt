use Rattle.stack_build.proofs.Common.{◌≡◌, subst, None, program_tree, lowered, FlatCode, frame_refusal, IsPlacedBy, IsLaidOut}
use Rattle.std.proofs.lemmas.Result.{err_from_is_err_and}
use Rattle.flat_code.specs.ProgramView.{program_code}
use Rattle.certificate_rules.specs.Validity.{IsValid}
use Rattle.stack_build.proofs.Frames.{frames-fit}
use Rattle.stack_build.proofs.Plans.{plan-for}
use Rattle.stack_build.proofs.building.lay_out.Goals as goal

pub generate-requires-clause-plan : goal.generate-requires-clause-plan
generate-requires-clause-plan c = plan-for (program_code c.in_ok-flat.flat) c.args.options.max_path c.in_ok-planned.planned.plan c.in_ok-planned.ensures.enough

pub returns-clause-laid_out : goal.returns-clause-laid_out
returns-clause-laid_out c =
    let planned = c.in_ok-planned.planned in
    let placed : IsPlacedBy (program_code c.in_ok-flat.flat) c.args.options.max_path planned.graph planned.back planned.plan =
    record { graph_is = c.in_ok-planned.ensures.graph; back_is = c.in_ok-planned.ensures.back; placed = c.in_ok-planned.ensures.placed } in
    subst (λ (x : FlatCode). IsLaidOut x c.args.options c.in_ok-image.image c.in_ok-image.certificate) c.in_ok-flat.ensures
    (planned.plan, (planned.graph, planned.back, placed), c.in_ok-image.ensures.certificate, c.in_ok-image.ensures.image)

pub returns-clause-valid : goal.returns-clause-valid
returns-clause-valid c = subst (λ (x : FlatCode). IsValid x c.in_ok-image.image c.in_ok-image.certificate) c.in_ok-flat.ensures c.in_ok-image.ensures.valid

pub returns-clause-frames : goal.returns-clause-frames
returns-clause-frames c =
    subst (λ (x : FlatCode). frame_refusal x c.args.options.max_path ≡ None) c.in_ok-flat.ensures
    (frames-fit (program_code c.in_ok-flat.flat) c.args.options.max_path c.in_ok-planned.planned.plan c.in_ok-planned.ensures.enough)

pub returns-in_err-image-clause-frames : goal.returns-in_err-image-clause-frames
returns-in_err-image-clause-frames c =
    let p = err_from_is_err_and c.from_residual-in_err-image.result c.from_residual-in_err-image.ensures.1 in
    let fit : frame_refusal (lowered (program_tree c.args.program.now)) c.args.options.max_path ≡ None =
    subst (λ (x : FlatCode). frame_refusal x c.args.options.max_path ≡ None) c.in_ok-flat.ensures
    (frames-fit (program_code c.in_ok-flat.flat) c.args.options.max_path c.in_ok-planned.planned.plan c.in_ok-planned.ensures.enough) in
    rw p.1 (λ large. fit)
