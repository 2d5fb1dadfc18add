use Rattle.pair_commands.proofs.Common.{inl, refl, program_tree, formed, IsUnbuilt, ServesProgram, stop-follows}
use Rattle.pair_commands.proofs.Leading.{laid-out-leads, laid-out-chunk}
use Rattle.pair_commands.proofs.OneBuild.{code-fits}
use Rattle.pair_commands.proofs.run_command.accept_program.Goals as goal

pub returns-in-Err : goal.returns-in-Err
returns-in-Err c = λ trace policy.
    let tree = program_tree c.args.program in
    stop-follows (IsUnbuilt c.args.sizes tree) (ServesProgram trace c.args.sizes policy tree) c.layout_stop-stop.result (λ o h. inl h) c.layout_stop-stop.ensures

pub returns-in-Ok-check : goal.returns-in-Ok-check
returns-in-Ok-check c = λ trace policy.
    let program = c.args.program in
    let tree = program_tree program in
    let built = c.in-Ok.built in
    let laid = c.in-Ok.ensures.laid_out in
    let words = ((c.in-Ok.ensures.valid.holds 1 0 2).v1 refl).words refl in
    let code = code-fits tree program.well_scoped c.args.sizes built.image built.certificate (formed tree built.image built.certificate program.well_scoped c.in-Ok.ensures.valid) laid words.1 in
    let accepts = c.in-Ok-check.ensures.accepted in (
      laid-out-leads trace c.args.sizes policy c.in-Ok-check.accepted tree built.image built.certificate accepts.program_is accepts.image_is accepts.certificate_is c.in-Ok.ensures.frames code laid,
      laid-out-chunk c.args.sizes c.in-Ok-check.accepted tree built.image built.certificate accepts.certificate_is laid,
    )
