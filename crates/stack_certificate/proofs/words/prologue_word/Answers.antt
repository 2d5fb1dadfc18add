use Rattle.stack_certificate.proofs.Common.{prologue}
use Rattle.stack_certificate.proofs.words.prologue_word.Goals as goal

pub returns : goal.returns
returns c = c.slot_word.ensures (prologue c.args.fact.now c.args.params) (rw (c.saves.ensures, c.push-2.ensures, c.push.ensures, c.new-list.ensures, c.lower_stack.ensures, c.store_word.ensures))
