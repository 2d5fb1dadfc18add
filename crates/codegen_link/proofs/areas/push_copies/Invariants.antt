use Rattle.std.proofs.Common.{◌≡◌, ◌++◌, replicate}
use Rattle.codegen_link.proofs.areas.push_copies.Given as goal

abbrev pub invariant-loop-copy : goal.invariant-loop-copy
invariant-loop-copy l = l.words.items ≡ l.fn.words.items ++ replicate l._copy l.word
