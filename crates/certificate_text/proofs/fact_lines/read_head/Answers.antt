use Rattle.certificate_text.proofs.FactFields.{no_ra, no_bound}
use Rattle.certificate_text.proofs.fact_lines.read_head.Goals as goal

pub returns-in_err-ra-clause-none : goal.returns-in_err-ra-clause-none
returns-in_err-ra-clause-none c =
    rw c.from_residual-in_err-ra.ensures (no_ra _ _ _ _ _ _ _ c.in_ok-entry.ensures.found.0 c.in_ok-words.ensures.found.0 c.in_ok-frame.ensures.found.0 c.in_err-ra.ensures.none)

pub returns-in_err-bound-clause-none : goal.returns-in_err-bound-clause-none
returns-in_err-bound-clause-none c =
    rw c.from_residual-in_err-bound.ensures (no_bound _ _ _ _ _ _ _ _ _ c.in_ok-entry.ensures.found.0 c.in_ok-words.ensures.found.0 c.in_ok-frame.ensures.found.0 c.in_ok-ra.ensures.found.0 c.in_err-bound.ensures.none)
