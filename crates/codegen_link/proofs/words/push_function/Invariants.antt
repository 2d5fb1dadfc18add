use Rattle.codegen_link.proofs.Common.{◌≡◌, ◌++◌, map, encoding, function_at, program_code, fact_at, prologue, operations_before}
use Rattle.codegen_link.proofs.words.push_function.Given as goal

abbrev pub invariant-loop-op : goal.invariant-loop-op
invariant-loop-op l = l.code.items ≡ l.fn.code.items ++ map encoding (
    prologue (fact_at l.layout.certificate.now l.function) (function_at (program_code l.layout.flat.now) l.function).params ++ operations_before (program_code l.layout.flat.now) l.layout.certificate.now l.function l.op)
