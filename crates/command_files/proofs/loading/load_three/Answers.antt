use Rattle.std.proofs.lemmas.Result.{err_from_is_err_and}
use Rattle.command_files.proofs.Follows.{second-stop, third-stop}
use Rattle.command_files.proofs.loading.load_three.Goals as goal

pub returns-in_err-image-clause-answer : goal.returns-in_err-image-clause-answer
returns-in_err-image-clause-answer g c =
    let p = err_from_is_err_and c.from_residual-in_err-image.result c.from_residual-in_err-image.ensures.1 in
    let source = c.in_ok-source.ensures in
    rw (p.1, p.2) (second-stop (g.F.Shelf.files c.args.shelf.now) (g.F.Shelf.files c.load.new.shelf) c.args.source_name.now c.args.image_name.now c.args.certificate_name.now c.in_ok-source.source.items
    (g.F.Shelf.load_faults c.args.shelf.now) (g.F.Shelf.load_faults c.load.new.shelf) (g.F.Shelf.load_faults c.load-2.new.shelf) c.in_err-image.field-0.0
    source.answer.0 source.files source.answer.1 c.in_err-image.ensures.answer)

pub returns-in_err-certificate-clause-answer : goal.returns-in_err-certificate-clause-answer
returns-in_err-certificate-clause-answer g c =
    let p = err_from_is_err_and c.from_residual-in_err-certificate.result c.from_residual-in_err-certificate.ensures.1 in
    let source = c.in_ok-source.ensures in
    let image = c.in_ok-image.ensures in
    rw (p.1, p.2) (third-stop (g.F.Shelf.files c.args.shelf.now) (g.F.Shelf.files c.load.new.shelf) (g.F.Shelf.files c.load-2.new.shelf) c.args.source_name.now c.args.image_name.now c.args.certificate_name.now c.in_ok-source.source.items c.in_ok-image.image.items
    (g.F.Shelf.load_faults c.args.shelf.now) (g.F.Shelf.load_faults c.load.new.shelf) (g.F.Shelf.load_faults c.load-2.new.shelf) (g.F.Shelf.load_faults c.load-3.new.shelf) c.in_err-certificate.field-0.0
    source.answer.0 image.answer.0 source.files image.files source.answer.1 image.answer.1 c.in_err-certificate.ensures.answer)
