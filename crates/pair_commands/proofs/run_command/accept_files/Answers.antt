use Rattle.pair_commands.proofs.Common.{◌≤◌, err_from_is_err_and, Acceptance, AfterThree, RunsBytes, pool_bytes, Nothing, three-follow, shelf-stop-follows}
use Rattle.pair_commands.proofs.Leading.{leads-after-three}
use Rattle.pair_commands.proofs.run_command.accept_files.Goals as goal

pub returns-in_err-files-clause-answer : goal.returns-in_err-files-clause-answer
returns-in_err-files-clause-answer g c = λ trace.
    let p = err_from_is_err_and c.from_residual.result c.from_residual.ensures.1 in
    let files = g.F.Shelf.files c.args.shelf.now in
    let a = c.args in
    let next = RunsBytes trace a.policy in
    rw (p.1, p.2) (shelf-stop-follows (AfterThree files a.source_name.now a.image_name.now a.certificate_name.now Nothing) (AfterThree files a.source_name.now a.image_name.now a.certificate_name.now next)
    (g.F.Shelf.load_faults a.shelf.now) (g.F.Shelf.load_faults c.load_three.new.shelf) c.in_err-files.field-0.0
    (three-follow files a.source_name.now a.image_name.now a.certificate_name.now next) c.in_err-files.ensures.answer)

pub returns-clause-answer : goal.returns-clause-answer
returns-clause-answer g c = λ trace.
    let accepted = rw (c.as_slice.ensures.value, c.as_slice-2.ensures.value, c.as_slice-3.ensures.value) at c.accept_bytes.ensures in
    let a = c.args in
    leads-after-three (λ (x : Acceptance). pool_bytes a.policy x.certificate ≤ 67108864) trace a.policy (g.F.Shelf.files a.shelf.now) a.source_name.now a.image_name.now a.certificate_name.now
    (g.F.Shelf.load_faults a.shelf.now) (g.F.Shelf.load_faults c.load_three.new.shelf) c.in_ok-files.files (RunsBytes trace a.policy) c.accept_bytes.result c.in_ok-files.ensures.answer (accepted trace)
