use Rattle.stack_certificate.proofs.WordLemmas.{slot-some, slot-none, slot-past}
use Rattle.stack_certificate.proofs.words.slot_word.Goals as goal

pub returns-in-Some-Some : goal.returns-in-Some-Some
returns-in-Some-Some c = λ rows e. rw c.encode.ensures.word (slot-some c.args.list.now c.args.word c.in-Some-Some.instr rows e (rw c.in-Some-Some.field-0-is at c.in-Some-Some.ensures))

pub returns-in-Some-None : goal.returns-in-Some-None
returns-in-Some-None c = λ rows e. slot-none c.args.list.now c.args.word rows e (rw c.in-Some-None.field-0-is at c.in-Some-None.ensures)

pub returns-in-None : goal.returns-in-None
returns-in-None c = λ rows e. slot-past c.args.list.now c.args.word rows e c.in-None.ensures
