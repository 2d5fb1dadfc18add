use Rattle.c_mean.proofs.Common.{refl, signed, word_of, floor_div, flag, add, sub, mul, div, rem}
use Rattle.c_mean.proofs.examples.server_serves.Goals as goal

pub returns : goal.returns
unfolding signed word_of floor_div flag add sub mul div rem
returns c = (_, (_, (10, refl), (_, (10, refl), (_, (10, refl), (_, refl, (_, (10, refl), (_, (10, refl), (_, refl, (_, (10, refl), refl)))))))), refl, refl)
