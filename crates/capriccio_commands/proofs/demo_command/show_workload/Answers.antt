use Rattle.capriccio_commands.proofs.Common.{err_from_is_err_and, MatchResult-weaker, Demos}
use Rattle.capriccio_commands.proofs.Shown.{no-more, shown-due}
use Rattle.capriccio_commands.proofs.demo_command.show_workload.Goals as goal

pub returns-in_err-trace : goal.returns-in_err-trace
returns-in_err-trace c =
    let p = err_from_is_err_and c.from_residual.result c.from_residual.ensures.1 in
    rw (p.1, p.2) (no-more c.args.number (Demos c.args.number) c.in_err-trace.field-0.0 c.in_err-trace.ensures)

pub returns : goal.returns
returns c =
    MatchResult-weaker c.show_run.result c.show_run.ensures
    (λ shown h. shown-due c.args.number c.requires.some c.requires.few c.in_ok-accepted.accepted c.in_ok-trace.trace.items shown c.in_ok-accepted.ensures c.in_ok-trace.ensures h)
    (λ stop h. no-more c.in_ok-trace.trace.items (Demos c.args.number) stop h)
