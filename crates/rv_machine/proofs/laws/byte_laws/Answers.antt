use Rattle.rv_machine.proofs.WordBytes.{byte_of-same, byte_of-other, word_with-below, word_at-held, byte_in-same, byte_in-other, with_word-row}
use Rattle.rv_machine.proofs.laws.byte_laws.Goals as goal

pub returns-clause-same : goal.returns-clause-same
returns-clause-same c = byte_of-same

pub returns-clause-others : goal.returns-clause-others
returns-clause-others c = byte_of-other

pub returns-clause-below : goal.returns-clause-below
returns-clause-below c = word_with-below

pub returns-clause-held : goal.returns-clause-held
returns-clause-held c = word_at-held

pub returns-clause-row_same : goal.returns-clause-row_same
returns-clause-row_same c = byte_in-same

pub returns-clause-row_others : goal.returns-clause-row_others
returns-clause-row_others c = byte_in-other

pub returns-clause-row_word : goal.returns-clause-row_word
returns-clause-row_word c = with_word-row
