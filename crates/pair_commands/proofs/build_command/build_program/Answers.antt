use Rattle.pair_commands.proofs.Common.{inl, program_tree, formed, BuildsProgram, IsUnbuilt, stop-follows}
use Rattle.pair_commands.proofs.Built.{pair-built}
use Rattle.one_plan.proofs.Limits.{image-fits, certificate-fits}
use Rattle.pair_commands.proofs.build_command.build_program.Goals as goal

pub products_of-products-requires-clause-image : goal.products_of-products-requires-clause-image
products_of-products-requires-clause-image c =
    image-fits (program_tree c.args.program.now) c.in-Ok.built.image c.in-Ok.built.certificate c.args.program.now.well_scoped c.in-Ok.ensures.valid

pub products_of-products-requires-clause-certificate : goal.products_of-products-requires-clause-certificate
products_of-products-requires-clause-certificate c =
    let laid = c.in-Ok.ensures.laid_out in
    certificate-fits (program_tree c.args.program.now) laid.0 c.args.options c.in-Ok.built.image c.in-Ok.built.certificate c.args.program.now.well_scoped c.in-Ok.ensures.valid laid.2

pub returns-in-Ok-products : goal.returns-in-Ok-products
returns-in-Ok-products c = λ image certificate.
    pair-built (program_tree c.args.program.now) c.args.options image certificate c.in-Ok.built.image c.in-Ok.built.certificate c.in-Ok-products.products
    c.args.program.now.well_scoped (formed (program_tree c.args.program.now) c.in-Ok.built.image c.in-Ok.built.certificate c.args.program.now.well_scoped c.in-Ok.ensures.valid) c.in-Ok.ensures.frames c.in-Ok.ensures.valid c.in-Ok.ensures.laid_out c.in-Ok-products.ensures

pub returns-in-Err : goal.returns-in-Err
returns-in-Err c = λ image certificate.
    let tree = program_tree c.args.program.now in
    stop-follows (IsUnbuilt c.args.options tree) (BuildsProgram c.args.options image certificate tree) c.layout_stop.result (λ o h. inl h) c.layout_stop.ensures
