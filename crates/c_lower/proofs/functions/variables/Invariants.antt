use Rattle.c_lower.proofs.Common.{◌≡◌, ◌++◌, scalars}
use Rattle.c_lower.proofs.functions.variables.Given as goal

abbrev pub invariant-loop : goal.invariant-loop
invariant-loop l = l.words.items ≡ l.sizes ++ scalars l.counter
