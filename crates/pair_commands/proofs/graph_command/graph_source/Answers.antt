use Rattle.pair_commands.proofs.Common.{ℕ, Vec, printed, AfterSource, GraphsProgram, after-load}
use Rattle.command_outcomes.specs.declared.documents.Document.TheVariants as document
use Rattle.pair_commands.proofs.graph_command.graph_source.Goals as goal

pub returns-clause-answer : goal.returns-clause-answer
returns-clause-answer g c =
    let loaded = c.in_ok-source.ensures.answer in
    after-load (λ (text : Vec ℕ). printed 0 text.items) document.Source (g.F.Shelf.files c.args.shelf.now) c.args.name.now c.in_ok-source.source.items
    (λ source. AfterSource source (GraphsProgram c.args.options.max_path)) (g.F.Shelf.load_faults c.args.shelf.now) (g.F.Shelf.load_faults c.load.new.shelf) c.graph_bytes.result
    loaded.0 loaded.1 (rw c.as_slice.ensures.value at c.graph_bytes.ensures)
