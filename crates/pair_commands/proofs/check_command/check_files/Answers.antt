use Rattle.pair_commands.proofs.Common.{err_from_is_err_and, AfterThree, ChecksBytes, verdict_outcome, Nothing, three-follow, shelf-stop-follows, after-three}
use Rattle.pair_commands.proofs.check_command.check_files.Goals as goal

pub returns-in_err-files-clause-answer : goal.returns-in_err-files-clause-answer
returns-in_err-files-clause-answer g c =
    let p = err_from_is_err_and c.from_residual.result c.from_residual.ensures.1 in
    let files = g.F.Shelf.files c.args.shelf.now in
    rw (p.1, p.2) (shelf-stop-follows (AfterThree files c.args.source_name.now c.args.image_name.now c.args.certificate_name.now Nothing) (AfterThree files c.args.source_name.now c.args.image_name.now c.args.certificate_name.now ChecksBytes)
    (g.F.Shelf.load_faults c.args.shelf.now) (g.F.Shelf.load_faults c.load_three.new.shelf) c.in_err-files.field-0.0
    (three-follow files c.args.source_name.now c.args.image_name.now c.args.certificate_name.now ChecksBytes) c.in_err-files.ensures.answer)

pub returns-clause-answer : goal.returns-clause-answer
returns-clause-answer g c =
    let checked = rw (c.as_slice.ensures.value, c.as_slice-2.ensures.value, c.as_slice-3.ensures.value) at c.check_bytes.ensures in
    after-three verdict_outcome (g.F.Shelf.files c.args.shelf.now) c.args.source_name.now c.args.image_name.now c.args.certificate_name.now
    (g.F.Shelf.load_faults c.args.shelf.now) (g.F.Shelf.load_faults c.load_three.new.shelf) c.in_ok-files.files ChecksBytes c.check_bytes.result c.in_ok-files.ensures.answer checked
