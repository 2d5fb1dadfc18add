use Rattle.codegen_link.proofs.Common.{◌≡◌, ◌+◌, ◌*◌, ◌≤◌, ◌^◌, take, sum_by, function_at, program_code, size, link}
use Rattle.codegen_link.proofs.sizes.function_size.Given as goal

abbrev pub invariant-loop-op : goal.invariant-loop-op
invariant-loop-op l = record {
  words : l.words ≡ 2 + (function_at (program_code l.flat) l.function).params +
      sum_by (λ op. size (function_at (program_code l.flat) l.function).sizes (link (program_code l.flat) l.plan op) op) (take l.op (function_at (program_code l.flat) l.function).ops);
  range : l.words ≤ 8 + l.op * 2 ^ 21;
}
