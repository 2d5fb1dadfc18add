use Rattle.codegen_link.proofs.Common.{◌≡◌, ◌++◌, map, take, encoding, prologue}
use Rattle.codegen_link.proofs.words.push_prologue.Given as goal

abbrev pub invariant-loop-word : goal.invariant-loop-word
invariant-loop-word l = l.code.items ≡ l.fn.code.items ++ map encoding (take l.word (prologue l.fact l.params))
