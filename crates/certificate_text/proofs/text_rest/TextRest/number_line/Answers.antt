use Rattle.certificate_text.proofs.FactFields.{if_none_map}
use Rattle.certificate_text.proofs.LineSplits.{no_number_line}
use Rattle.certificate_text.proofs.text_rest.TextRest.number_line.Goals as goal

pub returns-clause-none : goal.returns-clause-none
returns-clause-none c =
    if_none_map c.number_behind.result (no_number_line _ _ _ _ c.args.most c.in_ok-line.ensures.line.0 c.in_ok-line.ensures.line.1 c.requires) c.number_behind.ensures.none
