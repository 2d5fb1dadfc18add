use Rattle.std.proofs.Common.{refl}
use Rattle.cap_word.specs.Word.{signed, word_of, floor_div, flag, add, sub, mul, div, rem, sll, sra}
use Rattle.deep_mean.proofs.examples.index_is_tested_last.Goals as goal

pub returns : goal.returns
unfolding signed word_of floor_div flag add sub mul div rem sll sra
returns c = (100, refl)
