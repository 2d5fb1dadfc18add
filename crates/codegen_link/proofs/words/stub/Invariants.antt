use Rattle.codegen_link.proofs.Common.{◌≡◌, [], ◌++◌, map, take, encoding, end_stub}
use Rattle.codegen_link.proofs.words.stub.Given as goal

abbrev pub invariant-loop-word : goal.invariant-loop-word
invariant-loop-word l = l.code.items ≡ [] ++ map encoding (take l.word end_stub)
