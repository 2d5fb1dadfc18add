use Rattle.c_tree.proofs.Common.{◌≡◌, ◌≤◌, max, map, drop, expr_tree, capped, arguments_temporaries}
use Rattle.c_tree.proofs.temporaries.arguments_of.Given as goal

abbrev pub invariant-loop-index : goal.invariant-loop-index
invariant-loop-index l =
    (l.most ≤ 65537)
    × (capped (max l.most (arguments_temporaries l.index (map expr_tree (drop l.index l.arguments)))) ≡ capped (arguments_temporaries 0 (map expr_tree l.arguments)))
