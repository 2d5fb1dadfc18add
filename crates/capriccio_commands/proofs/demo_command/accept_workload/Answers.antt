use Rattle.capriccio_commands.proofs.Common.{Some, err_from_is_err_and, MatchResult-weaker, program_tree, trace_text, Demos, demo_policy}
use Rattle.capriccio_commands.proofs.Shown.{no-more, unaccepted-workload}
use Rattle.capriccio_commands.proofs.Workloads.{demo-in-range}
use Rattle.capriccio_commands.proofs.demo_command.accept_workload.Goals as goal

pub accept_program-requires : goal.accept_program-requires
accept_program-requires c = rw c.workload_sizes.ensures demo-in-range

pub returns-in_err-program : goal.returns-in_err-program
returns-in_err-program c =
    let p = err_from_is_err_and c.from_residual.result c.from_residual.ensures.1 in
    rw (p.1, p.2) (no-more c.args.number (Demos c.args.number) c.in_err-program.field-0.0 c.in_err-program.ensures)

pub returns : goal.returns
returns c =
    let tree = program_tree c.in_ok-program.program in
    let accepted = rw c.workload_sizes.ensures at c.accept_program.ensures in
    MatchResult-weaker c.accept_program.result (accepted (Some (trace_text c.args.number)) demo_policy)
    (λ accepted is. record { program = tree; source = c.in_ok-program.ensures; leads = is.0; chunk = is.1 })
    (λ stop h. unaccepted-workload c.args.number c.requires.some c.requires.few tree stop c.in_ok-program.ensures h)
