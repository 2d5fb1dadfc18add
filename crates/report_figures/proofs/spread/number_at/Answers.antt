use Rattle.std.proofs.Common.{rules, ◌∙◌, Some, ap, sym}
use Rattle.std.proofs.lemmas.Option.{slice_get-get_or}
use Rattle.report_figures.specs.Ticks.{ticks_in}
use Rattle.report_figures.proofs.spread.number_at.Goals as goal

pub returns : goal.returns
returns c = slice_get-get_or (ticks_in c.args.numbers.now) c.args.place 0 (search rules) ∙ ap Some (sym c.at.ensures)
