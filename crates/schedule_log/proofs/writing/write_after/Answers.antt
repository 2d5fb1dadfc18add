use Rattle.std.proofs.Common.{ℕ, List, ◌∷◌, ap, sym}
use Rattle.schedule_log.proofs.Pushed.{widened}
use Rattle.schedule_log.proofs.Written.{writes_step}
use Rattle.schedule_log.proofs.writing.write_after.Goals as goal

pub returns : goal.returns
returns g c =
    writes_step _ _ _ _ _ _ c.write_byte.ensures c.write_digits.ensures
    (ap (λ (l : List ℕ). c.args.separator ∷ l) (sym (widened c.from.result c.args.number c.ranges.number.fits c.from.ensures)))
