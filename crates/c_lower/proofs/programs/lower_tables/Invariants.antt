use Rattle.c_lower.proofs.Common.{◌≡◌, ◌++◌, map, drop, table_row}
use Rattle.c_lower.proofs.programs.lower_tables.Given as goal

abbrev pub invariant-loop-table : goal.invariant-loop-table
invariant-loop-table l = l.list.items ++ map table_row (drop l.table-index l.tables) ≡ map table_row l.tables
