use Rattle.std.proofs.Common.{sym, ◌∙◌}
use Rattle.certificate_text.proofs.FactFields.{no_site_number, site_below, no_site_kind, site_spelled}
use Rattle.certificate_text.proofs.fact_lines.read_site.Goals as goal

pub returns-in_err-number-clause-none : goal.returns-in_err-number-clause-none
returns-in_err-number-clause-none c = rw c.from_residual-in_err-number.ensures (no_site_number _ _ _ c.args.last (sym c.new-fields.ensures ∙ c.in_ok-word.ensures) c.in_err-number.ensures.none)

pub returns-then-not-is_above-clause-none : goal.returns-then-not-is_above-clause-none
returns-then-not-is_above-clause-none c =
    site_below _ _ _ _ c.args.last c.in_ok-number.number (sym c.new-fields.ensures ∙ c.in_ok-word.ensures) c.in_ok-number.ensures.found.0 c.if-not-is_above.ensures

pub returns-in_err-kind-clause-none : goal.returns-in_err-kind-clause-none
returns-in_err-kind-clause-none c =
    rw c.from_residual-in_err-kind.ensures (no_site_kind _ _ _ _ c.args.last c.in_ok-number.number (sym c.new-fields.ensures ∙ c.in_ok-word.ensures) c.in_ok-number.ensures.found.0 c.in_err-kind.ensures.none)

pub returns-clause-found : goal.returns-clause-found
returns-clause-found c = (
  c.if-not-is_above.ensures,
  (c.in_ok-number.ensures.found.1, c.in_ok-kind.ensures.found.0),
  site_spelled _ _ _ _ c.in_ok-number.number c.in_ok-kind.kind (sym c.new-fields.ensures ∙ c.in_ok-word.ensures) c.if-not-is_same.ensures c.in_ok-number.ensures.found.0 c.in_ok-kind.ensures.found.1,
)
