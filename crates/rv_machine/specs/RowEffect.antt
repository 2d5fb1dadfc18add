-- The effect of a row of the table on the machine, by its form.
use Rattle.std.specs.Prelude.{true}
use Rattle.rv_machine.specs.declared.rows.Row.{Row}
use Rattle.rv_machine.specs.declared.rows.Row.TheVariants as row
use Rattle.rv_machine.specs.Rows as rows
use Rattle.rv_machine.specs.Rows.{Machine, Outcome}

unfoldable pub row_effect : Row → Machine → Outcome
row_effect row.Passes m = rows.passes m
row_effect (row.Sets rd value) m = rows.sets m rd value
row_effect (row.Jumps rd target) m = rows.jumps m rd target
row_effect (row.Branches imm) m = rows.branches m imm true
row_effect (row.StoresByte at value) m = rows.byte_stored m at value
row_effect (row.StoresHalf at value) m = rows.half_stored m at value
row_effect (row.StoresWord at value) m = rows.word_stored m at value
row_effect (row.Asks number) m = rows.Asks number
row_effect (row.Fails kind) m = rows.Fails kind
