use Rattle.capriccio_call.proofs.Common.{◌≡◌, ◌++◌, drop, into_iter_items}
use Rattle.capriccio_call.proofs.command_line.words_after_name.Given as goal

abbrev pub invariant-loop-word : goal.invariant-loop-word
invariant-loop-word l = l.words.items ++ into_iter_items l.word-iterator ≡ drop 1 (into_iter_items l.fn.arguments)
