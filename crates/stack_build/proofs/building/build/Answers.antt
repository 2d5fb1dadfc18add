use Rattle.stack_build.proofs.Common.{sym, subst, lowered, program_tree, IsLaidOut}
use Rattle.stack_certificate.specs.declared.certificates.Certificate.{Certificate}
use Rattle.stack_image.specs.declared.images.Image.{Image}
use Rattle.stack_build.proofs.building.build.Goals as goal

pub unreachable-requires : goal.unreachable-requires
unreachable-requires c =
    let refusal = rw c.in-Err-Rejected.field-0-is at c.in-Err-Rejected.ensures.refused in
    refusal.1.fails (c.in_ok-built.ensures.valid.holds c.in-Err-Rejected.field-0-0 c.in-Err-Rejected.field-0-1 c.in-Err-Rejected.field-0-2)

pub returns-in-Ok-clause-laid_out : goal.returns-in-Ok-clause-laid_out
returns-in-Ok-clause-laid_out c =
    let code = lowered (program_tree c.args.program) in
    let built = c.in_ok-built.built in
    let is = c.in-Ok.ensures.accepted in
    subst (λ (i : Image). IsLaidOut code c.args.options i c.in-Ok.accepted.certificate) (sym is.image_is)
    (subst (λ (k : Certificate). IsLaidOut code c.args.options built.image k) (sym is.certificate_is) c.in_ok-built.ensures.laid_out)
