use Rattle.std.proofs.Common.{[], map}
use Rattle.c_tree.proofs.ExprEquations.{operand_tree}
use Rattle.c_mean.proofs.ChainLemmas.{OperandsInRange}
use Rattle.reader_rows.proofs.values.long_sum.Given as goal

abbrev pub invariant-loop : goal.invariant-loop
invariant-loop l = OperandsInRange [] [] (map operand_tree l.rest.items)
