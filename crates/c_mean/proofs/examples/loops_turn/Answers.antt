use Rattle.c_mean.proofs.Common.{refl, signed, word_of, floor_div, flag, add, sub, mul, div, rem, sll, sra}
use Rattle.c_mean.proofs.examples.loops_turn.Goals as goal

pub returns-clause-in_for : goal.returns-clause-in_for
unfolding signed word_of floor_div flag add sub mul div rem sll sra
returns-clause-in_for c = (100, refl)

pub returns-clause-in_while : goal.returns-clause-in_while
unfolding signed word_of floor_div flag add sub mul div rem sll sra
returns-clause-in_while c = (100, refl)
