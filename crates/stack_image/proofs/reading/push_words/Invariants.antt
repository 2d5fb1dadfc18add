use Rattle.stack_image.proofs.Common.{◌≡◌, words_of}
use Rattle.stack_image.proofs.reading.push_words.Given as goal

abbrev pub invariant-loop-place : goal.invariant-loop-place
invariant-loop-place l = l.words.items ≡ words_of l.place l.bytes
