use Rattle.pair_commands.proofs.Common.{inl, err_from_is_err_and, MatchResult-weaker, program_tree, NoMore, AfterSource, BuildsProgram, stop-follows, source-follows}
use Rattle.pair_commands.proofs.build_command.build_bytes.Goals as goal

pub returns-in_err-program : goal.returns-in_err-program
returns-in_err-program c = λ image certificate.
    let p = err_from_is_err_and c.from_residual.result c.from_residual.ensures.1 in
    let next = BuildsProgram c.args.options image certificate in
    rw (p.1, p.2) (stop-follows (AfterSource c.args.source.now NoMore) (AfterSource c.args.source.now next) c.in_err-program.field-0.0
    (λ o h. source-follows c.args.source.now NoMore next o (λ q x. absurd x) h) c.in_err-program.ensures)

pub returns : goal.returns
returns c = λ image certificate.
    let tree = program_tree c.in_ok-program.program in
    let next = BuildsProgram c.args.options image certificate in
    MatchResult-weaker c.build_program-products.result (c.build_program-products.ensures image certificate)
    (λ products is. inl (tree, c.in_ok-program.ensures, is))
    (λ stop h. stop-follows (next tree) (AfterSource c.args.source.now next) stop (λ o y. inl (tree, c.in_ok-program.ensures, y)) h)
