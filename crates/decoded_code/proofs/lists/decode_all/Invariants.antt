use Rattle.decoded_code.proofs.Common.{◌≡◌, map, take, decoding}
use Rattle.decoded_code.proofs.lists.decode_all.Given as goal

abbrev pub invariant-loop-word : goal.invariant-loop-word
invariant-loop-word l = l.decoded.items ≡ map decoding (take l.word-index l.words)
