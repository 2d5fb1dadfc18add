use Rattle.std.proofs.Common.{refl}
use Rattle.cap_word.specs.Word.{signed, word_of, floor_div, flag, add, sub, mul, div, rem, sll, sra}
use Rattle.deep_mean.proofs.statement_examples.loops_go_on.Goals as goal

pub returns-clause-step : goal.returns-clause-step
unfolding signed word_of floor_div flag add sub mul div rem sll sra
returns-clause-step c = (_, (300, refl))

pub returns-clause-calls : goal.returns-clause-calls
unfolding signed word_of floor_div flag add sub mul div rem sll sra
returns-clause-calls c = (_, (300, refl))

pub returns-clause-breaks : goal.returns-clause-breaks
unfolding signed word_of floor_div flag add sub mul div rem sll sra
returns-clause-breaks c = (_, (300, refl))
