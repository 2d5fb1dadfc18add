use Rattle.stack_image.proofs.Common.{◌≡◌, ◌++◌, take, words}
use Rattle.stack_image.proofs.writing.put_words.Given as goal

abbrev pub invariant-loop-word : goal.invariant-loop-word
invariant-loop-word l = l.bytes.items ≡ l.initial.bytes.items ++ words (take l.word-index l.added)
