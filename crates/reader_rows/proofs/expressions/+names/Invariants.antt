use Rattle.std.proofs.Common.{drop}
use Rattle.reader_rows.specs.Small.{UseRowNames}
use Rattle.reader_rows.proofs.expressions.+names.Given as goal

abbrev pub invariant-all_fit-loop-operand : goal.invariant-all_fit-loop-operand
invariant-all_fit-loop-operand l = UseRowNames (drop l.operand-index l.operands) → UseRowNames l.operands
