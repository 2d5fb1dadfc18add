use Rattle.cap_text.proofs.Common.{ap, sym, ◌∙◌, pieces_left}
use Rattle.cap_text.proofs.PieceSteps.{piece_at, last_piece}
use Rattle.cap_text.proofs.fields.Fields.next.Goals as goal

pub returns-in-Some : goal.returns-in-Some
returns-in-Some c =
    sym c.self.view_is ∙ ap (pieces_left c.self.inside.separator) c.in_ok-rest.was ∙ (piece_at c.self.inside.separator c.in_ok-rest.rest.now c.in-Some.place c.in-Some.ensures).1

pub returns-in-None : goal.returns-in-None
returns-in-None c =
    sym c.self.view_is ∙ ap (pieces_left c.self.inside.separator) c.in_ok-rest.was ∙ last_piece c.self.inside.separator c.in_ok-rest.rest.now c.in-None.ensures
