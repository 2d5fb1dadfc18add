use Rattle.schedule_log.proofs.Common.{◌∷◌, ap, sym, ℤ, w128, to_z-of_z, canonical_integer}
use Rattle.schedule_log.proofs.Written.{writes_step}
use Rattle.schedule_log.proofs.writing.write_integer.Goals as goal

pub returns : goal.returns
returns g c =
    writes_step _ _ _ _ _ _ c.write_byte.ensures c.write_digits.ensures
    (ap (λ (z : ℤ). 32 ∷ canonical_integer z) (sym (to_z-of_z w128 c.args.number c.ranges.number)))
