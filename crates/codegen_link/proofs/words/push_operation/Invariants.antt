use Rattle.codegen_link.proofs.Common.{◌≡◌, ◌++◌, map, take, encoding, program_code, template}
use Rattle.codegen_link.proofs.words.push_operation.Given as goal

abbrev pub invariant-loop-word : goal.invariant-loop-word
invariant-loop-word l = l.code.items ≡ l.fn.code.items ++ map encoding (take l.word (template (program_code l.layout.flat.now) l.layout.certificate.now l.function l.op))
