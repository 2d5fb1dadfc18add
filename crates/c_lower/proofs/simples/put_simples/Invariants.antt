use Rattle.c_lower.proofs.Common.{◌≡◌, ◌<◌, ◌+◌, ◌^◌, ◌++◌, length, map, drop, simples_temporaries, simple_tree, simples_code}
use Rattle.c_lower.proofs.simples.put_simples.Given as goal

abbrev pub invariant-loop-simple : goal.invariant-loop-simple
invariant-loop-simple l = record {
  code : l.code.items ++ simples_code (map simple_tree (drop l.simple-index l.simples)) (length l.code.items) l.t
      ≡ l.fn.code.items ++ simples_code (map simple_tree l.simples) (length l.fn.code.items) l.t;
  fits : l.t + simples_temporaries (map simple_tree (drop l.simple-index l.simples)) < 2 ^ 32;
}
