use Rattle.certificate_text.proofs.Common.{take, ◌++◌, ◌∷◌, ◌+◌, sym, ◌∙◌, ap, take_rest}
use Rattle.certificate_text.proofs.LineSplits.{line_at, no_line_at}
use Rattle.certificate_text.proofs.text_rest.TextRest.next_line.Goals as goal

pub returns-in_err-end-clause-none : goal.returns-in_err-end-clause-none
returns-in_err-end-clause-none c = rw c.from_residual.ensures (λ line more is. no_line_at _ c.in_err-end.ensures line more (c.self.view_is ∙ is))

pub returns-clause-line : goal.returns-clause-line
returns-clause-line c =
    let bytes = c.self.inside.bytes.now in
    let line = line_at bytes c.in_ok-end.end c.in_ok-end.ensures in
    (sym c.self.view_is ∙ line.whole ∙ ap (λ x. take c.in_ok-end.end bytes ++ 10 ∷ x) (sym (take_rest bytes (c.in_ok-end.end + 1))), line.lacks)
