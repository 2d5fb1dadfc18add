use Rattle.pair_commands.proofs.Common.{err_from_is_err_and, Products, NoMore, AfterLoad, AfterSource, Builds, BuildsProgram, stored_products, after-load, load-follows, shelf-stop-follows}
use Rattle.command_outcomes.specs.declared.documents.Document.TheVariants as document
use Rattle.pair_commands.proofs.build_command.build_source.Goals as goal

pub returns-in_err-source-clause-answer : goal.returns-in_err-source-clause-answer
returns-in_err-source-clause-answer g c = λ image certificate.
    let p = err_from_is_err_and c.from_residual.result c.from_residual.ensures.1 in
    let files = g.F.Shelf.files c.args.shelf.now in
    let name = c.args.name.now in
    rw (p.1, p.2) (shelf-stop-follows (AfterLoad document.Source files name NoMore) (Builds files name image certificate c.args.options)
    (g.F.Shelf.load_faults c.args.shelf.now) (g.F.Shelf.load_faults c.load.new.shelf) c.in_err-source.field-0.0
    (λ o. load-follows document.Source files name NoMore (λ source. AfterSource source (BuildsProgram c.args.options image certificate)) o (λ bytes x. absurd x)) c.in_err-source.ensures.answer)

pub returns-clause-answer : goal.returns-clause-answer
returns-clause-answer g c = λ image certificate.
    let loaded = c.in_ok-source.ensures.answer in
    let built = rw c.as_slice.ensures.value at c.build_bytes.ensures in
    after-load (λ (products : Products). stored_products image certificate products) document.Source (g.F.Shelf.files c.args.shelf.now) c.args.name.now c.in_ok-source.source.items
    (λ source. AfterSource source (BuildsProgram c.args.options image certificate)) (g.F.Shelf.load_faults c.args.shelf.now) (g.F.Shelf.load_faults c.load.new.shelf) c.build_bytes.result
    loaded.0 loaded.1 (built image certificate)
