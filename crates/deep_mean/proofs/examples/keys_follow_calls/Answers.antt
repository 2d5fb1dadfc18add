use Rattle.std.proofs.Common.{refl}
use Rattle.cap_word.specs.Word.{signed, word_of, floor_div, flag, add, sub, mul, div, rem}
use Rattle.deep_mean.proofs.examples.keys_follow_calls.Goals as goal

pub returns-clause-inner : goal.returns-clause-inner
unfolding signed word_of floor_div flag add sub mul div rem
returns-clause-inner c = (_, (_, (100, refl), refl), refl)

pub returns-clause-outer : goal.returns-clause-outer
unfolding signed word_of floor_div flag add sub mul div rem
returns-clause-outer c = (_, (_, (100, refl), (_, (100, refl), refl)), refl)

pub returns-clause-ends : goal.returns-clause-ends
unfolding signed word_of floor_div flag add sub mul div rem
returns-clause-ends c = (_, (_, (100, refl), (_, (100, refl), (_, (100, refl), refl))), refl)
