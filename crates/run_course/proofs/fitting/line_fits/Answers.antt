use Rattle.run_course.proofs.FitTexts.{fit_one}
use Rattle.run_course.proofs.fitting.line_fits.Goals as goal

pub returns : goal.returns
returns c = fit_one c.args.entry.now c.entry_fits.ensures
