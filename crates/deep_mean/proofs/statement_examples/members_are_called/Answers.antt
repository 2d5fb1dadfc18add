use Rattle.std.proofs.Common.{refl}
use Rattle.cap_word.specs.Word.{signed, word_of, floor_div, flag, add, sub, mul, div, rem, sll, sra}
use Rattle.deep_mean.proofs.statement_examples.members_are_called.Goals as goal

pub returns : goal.returns
unfolding signed word_of floor_div flag add sub mul div rem sll sra
returns c = (_, (200, refl))
