use Rattle.codegen_link.proofs.Common.{◌≡◌, ◌+◌, ◌*◌, ◌≤◌, ◌^◌, map, range_with_len, program_code, begin}
use Rattle.codegen_link.proofs.settings.begins.Given as goal

abbrev pub invariant-loop-op : goal.invariant-loop-op
invariant-loop-op l = record {
  begins : l.begins.items ≡ map (begin (program_code l.layout.flat.now) l.layout.certificate.now l.function) (range_with_len 0 l.op);
  here : l.here ≡ begin (program_code l.layout.flat.now) l.layout.certificate.now l.function l.op;
  range : l.here ≤ 2 ^ 40 + l.op * 2 ^ 23;
}
