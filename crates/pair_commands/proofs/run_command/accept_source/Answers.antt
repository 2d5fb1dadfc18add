use Rattle.pair_commands.proofs.Common.{◌≡◌, err_from_is_err_and, Acceptance, NoMore, AfterLoad, AfterSource, Serves, ServesProgram, load-follows, shelf-stop-follows}
use Rattle.command_outcomes.specs.declared.documents.Document.TheVariants as document
use Rattle.pair_commands.proofs.Leading.{leads-after-load}
use Rattle.pair_commands.proofs.run_command.accept_source.Goals as goal

pub returns-in_err-source-clause-answer : goal.returns-in_err-source-clause-answer
returns-in_err-source-clause-answer g c = λ trace policy.
    let p = err_from_is_err_and c.from_residual.result c.from_residual.ensures.1 in
    let files = g.F.Shelf.files c.args.shelf.now in
    let name = c.args.name.now in
    rw (p.1, p.2) (shelf-stop-follows (AfterLoad document.Source files name NoMore) (Serves files trace name c.args.sizes policy)
    (g.F.Shelf.load_faults c.args.shelf.now) (g.F.Shelf.load_faults c.load.new.shelf) c.in_err-source.field-0.0
    (λ o. load-follows document.Source files name NoMore (λ source. AfterSource source (ServesProgram trace c.args.sizes policy)) o (λ bytes x. absurd x)) c.in_err-source.ensures.answer)

pub returns-clause-answer : goal.returns-clause-answer
returns-clause-answer g c = λ trace policy.
    let loaded = c.in_ok-source.ensures.answer in
    let accepted = rw c.as_slice.ensures.value at c.accept_source_bytes.ensures in
    leads-after-load (λ (a : Acceptance). a.certificate.chunk ≡ c.args.sizes.chunk) trace policy document.Source (g.F.Shelf.files c.args.shelf.now) c.args.name.now c.in_ok-source.source.items
    (λ source. AfterSource source (ServesProgram trace c.args.sizes policy)) (g.F.Shelf.load_faults c.args.shelf.now) (g.F.Shelf.load_faults c.load.new.shelf) c.accept_source_bytes.result
    loaded.0 loaded.1 (accepted trace policy)
