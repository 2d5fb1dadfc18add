use Rattle.std.proofs.Common.{refl}
use Rattle.cap_word.specs.Word.{signed, word_of, floor_div, flag, add, sub, mul, div, rem, sll, sra}
use Rattle.deep_mean.proofs.statement_examples.accepts_come_in_order.Goals as goal

pub returns-clause-first : goal.returns-clause-first
unfolding signed word_of floor_div flag add sub mul div rem sll sra
returns-clause-first c = (_, (_, (100, refl), refl), refl)

pub returns-clause-ends : goal.returns-clause-ends
unfolding signed word_of floor_div flag add sub mul div rem sll sra
returns-clause-ends c = (_, (_, (100, refl), (_, refl, (_, (100, refl), (_, refl, (_, (100, refl), refl))))), refl, refl, refl)

pub returns-clause-second : goal.returns-clause-second
unfolding signed word_of floor_div flag add sub mul div rem sll sra
returns-clause-second c = (_, (_, (100, refl), (_, refl, (_, (100, refl), refl))), refl)
