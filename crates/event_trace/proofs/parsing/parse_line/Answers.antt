use Rattle.std.proofs.Common.{sym, ◌∙◌}
use Rattle.event_trace.proofs.LineTexts.{line_answer}
use Rattle.event_trace.proofs.parsing.parse_line.Goals as goal

pub returns : goal.returns
returns c = line_answer _ _ _ c.parse_fields.result (sym c.new-fields.ensures ∙ c.in_ok-word.ensures) c.requires c.parse_fields.ensures.found c.parse_fields.ensures.none
