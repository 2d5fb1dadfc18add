use Rattle.std.proofs.Common.{ap, sym, ◌∙◌, length, ◌==◌}
use Rattle.cap_text.proofs.PieceSteps.{over_is}
use Rattle.cap_text.proofs.fields.Fields.is_over.Goals as goal

pub returns : goal.returns
returns c = over_is c.self.inside.separator c.self.inside.rest c.is_none.result (sym c.is_none.ensures) ∙ ap (λ fields. length fields == 0) c.self.view_is
