use Rattle.c_mean.proofs.Common.{refl, signed, word_of, floor_div, flag, add, sub, mul, div, rem, sll, sra}
use Rattle.c_mean.proofs.examples.operators_have_edges.Goals as goal

pub returns-clause-quotient : goal.returns-clause-quotient
unfolding signed word_of floor_div flag add sub mul div rem sll sra
returns-clause-quotient c = refl

pub returns-clause-remainder : goal.returns-clause-remainder
unfolding signed word_of floor_div flag add sub mul div rem sll sra
returns-clause-remainder c = refl

pub returns-clause-sum : goal.returns-clause-sum
unfolding signed word_of floor_div flag add sub mul div rem sll sra
returns-clause-sum c = refl

pub returns-clause-left : goal.returns-clause-left
unfolding signed word_of floor_div flag add sub mul div rem sll sra
returns-clause-left c = refl

pub returns-clause-right : goal.returns-clause-right
unfolding signed word_of floor_div flag add sub mul div rem sll sra
returns-clause-right c = refl

pub returns-clause-less : goal.returns-clause-less
unfolding signed word_of floor_div flag add sub mul div rem sll sra
returns-clause-less c = refl

pub returns-clause-remainder_by_0 : goal.returns-clause-remainder_by_0
unfolding signed word_of floor_div flag add sub mul div rem sll sra
returns-clause-remainder_by_0 c = refl

pub returns-clause-not : goal.returns-clause-not
unfolding signed word_of floor_div flag add sub mul div rem sll sra
returns-clause-not c = refl
