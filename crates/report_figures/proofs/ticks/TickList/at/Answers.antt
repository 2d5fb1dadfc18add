use Rattle.std.proofs.Common.{◌∙◌, ℕ, Option, unwrap_or, ap}
use Rattle.std.proofs.lemmas.Option.{unwrap_or-slice_get}
use Rattle.report_figures.specs.Ticks.{ticks_in}
use Rattle.report_figures.proofs.ticks.TickList.at.Goals as goal

pub returns : goal.returns
returns c = c.unwrap_or.ensures ∙ (ap (λ (o : Option ℕ). unwrap_or o 0) c.get.ensures ∙ unwrap_or-slice_get (ticks_in c.args.self.now) c.args.place 0)
