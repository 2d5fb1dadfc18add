use Rattle.cap_text.proofs.PieceLaws.{pieces_lack, text_of_pieces, pieces_joined}
use Rattle.cap_text.proofs.laws.fields_are_pieces.Goals as goal

pub returns-clause-apart : goal.returns-clause-apart
returns-clause-apart c = pieces_lack

pub returns-clause-text : goal.returns-clause-text
returns-clause-text c = text_of_pieces

pub returns-clause-back : goal.returns-clause-back
returns-clause-back c separator first fields none = pieces_joined separator first fields none.0 none.1
