use Rattle.std.proofs.Common.{refl}
use Rattle.cap_word.specs.Word.{signed, word_of, floor_div, flag, add, sub, mul, div, rem, sll, sra}
use Rattle.deep_mean.proofs.statement_examples.indexes_are_tested.Goals as goal

pub returns-clause-sum : goal.returns-clause-sum
unfolding signed word_of floor_div flag add sub mul div rem sll sra
returns-clause-sum c = (100, refl)

pub returns-clause-call : goal.returns-clause-call
unfolding signed word_of floor_div flag add sub mul div rem sll sra
returns-clause-call c = (100, refl)

pub returns-clause-element : goal.returns-clause-element
unfolding signed word_of floor_div flag add sub mul div rem sll sra
returns-clause-element c = (100, refl)
