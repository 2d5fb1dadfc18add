use Rattle.stack_certificate.proofs.Common.{end_stub}
use Rattle.stack_certificate.proofs.words.stub_word.Goals as goal

pub returns : goal.returns
returns c = c.slot_word.ensures end_stub (rw (c.system_call.ensures, c.new-list.ensures))
