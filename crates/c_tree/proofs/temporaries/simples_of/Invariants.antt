use Rattle.c_tree.proofs.Common.{◌≡◌, ◌≤◌, max, map, drop, simple_tree, capped, simples_temporaries}
use Rattle.c_tree.proofs.temporaries.simples_of.Given as goal

abbrev pub invariant-loop-simple : goal.invariant-loop-simple
invariant-loop-simple l =
    (l.most ≤ 65537)
    × (capped (max l.most (simples_temporaries (map simple_tree (drop l.simple-index l.simples)))) ≡ capped (simples_temporaries (map simple_tree l.simples)))
