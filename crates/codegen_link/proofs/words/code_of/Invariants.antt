use Rattle.codegen_link.proofs.Common.{◌≡◌, map, encoding, program_code, functions_before}
use Rattle.codegen_link.proofs.words.code_of.Given as goal

abbrev pub invariant-loop-function : goal.invariant-loop-function
invariant-loop-function l = l.code.items ≡ map encoding (functions_before (program_code l.layout.flat.now) l.layout.certificate.now l.function)
